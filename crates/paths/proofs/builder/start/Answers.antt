-- `builder::start` meets its contract. Assumes nothing.
use borrow.Author.Rules.{rules}
use Rattle.paths.proofs.Building.{start_is}
use Rattle.paths.proofs.builder.start.Goals as goal

pub returns : goal.returns
returns c = search (start_is, rules)
