-- `builder::make_or` meets its contract. Assumes nothing.
use borrow.Author.Rules.{rules}
use Rattle.paths.proofs.Building.{or_does}
use Rattle.paths.proofs.builder.make_or.Goals as goal

pub returns : goal.returns
returns c = search (or_does, rules)
