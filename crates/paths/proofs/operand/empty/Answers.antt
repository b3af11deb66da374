-- `operand::empty` meets its contract. Assumes nothing.
use Rattle.paths.proofs.Operands.{empty_is}
use Rattle.paths.proofs.operand.empty.Goals as goal

pub returns : goal.returns
returns c = empty_is
