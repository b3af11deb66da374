-- `builder::make_then` meets its contract. Assumes nothing.
use borrow.Author.Rules.{rules}
use Rattle.paths.proofs.Building.{then_does}
use Rattle.paths.proofs.builder.make_then.Goals as goal

pub returns : goal.returns
returns c = search (then_does, rules)
