-- `operand::then` meets its contract. Assumes nothing.
use borrow.Author.Rules.{rules}
use Rattle.paths.proofs.Operands.{then_is}
use Rattle.paths.proofs.operand.then.Goals as goal

pub returns : goal.returns
returns c = search (then_is, rules)
