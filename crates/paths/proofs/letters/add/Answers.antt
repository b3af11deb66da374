-- `letters::add` meets its contract. Assumes nothing.
use borrow.Author.Rules.{rules}
use Rattle.paths.proofs.Lettering.{sides_more}
use Rattle.paths.proofs.letters.add.Goals as goal

pub returns : goal.returns
returns c = search (sides_more, rules)
