-- `operand::letter` meets its contract. Assumes nothing.
use Rattle.paths.proofs.Operands.{letter_is}
use Rattle.paths.proofs.operand.letter.Goals as goal

pub returns : goal.returns
returns c = letter_is _ _ c.with-s.ensures
