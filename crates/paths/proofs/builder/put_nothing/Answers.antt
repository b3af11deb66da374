-- `builder::put_nothing` meets its contract. Assumes nothing.
use borrow.Author.Rules.{rules}
use Rattle.paths.proofs.Building.{nothing_does}
use Rattle.paths.proofs.builder.put_nothing.Goals as goal

pub returns : goal.returns
returns c = search (nothing_does, rules)
