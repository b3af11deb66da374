-- `builder::make_star` meets its contract. Assumes nothing.
use borrow.Author.Rules.{rules}
use Rattle.paths.proofs.Building.{star_does}
use Rattle.paths.proofs.builder.make_star.Goals as goal

pub returns : goal.returns
returns c = search (star_does, rules)
