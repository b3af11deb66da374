-- `operand::or` meets its contract. Assumes nothing.
use borrow.Author.Rules.{rules}
use Rattle.paths.proofs.Operands.{or_is}
use Rattle.paths.proofs.operand.or.Goals as goal

pub returns : goal.returns
returns c = search (or_is, rules)
