-- `triples::check::is_large` meets its contract. Assumes nothing.
use borrow.Author.Rules.{rules}
use Rattle.triples.specs.At.{large_at}
use Rattle.triples.proofs.check.is_large.Goals as goal

pub returns : goal.returns
unfolding large_at
returns c = search rules
