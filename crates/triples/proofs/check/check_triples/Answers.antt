-- `triples::check::check_triples` meets its contract. Assumes nothing.
use borrow.Author.Rules.{rules}
use Rattle.triples.proofs.Reading.{few_triples, triples_checked}
use Rattle.triples.proofs.check.check_triples.Goals as goal

pub has_large-large-requires : goal.has_large-large-requires
has_large-large-requires c = search (few_triples, rules)

pub returns : goal.returns
returns c = search (triples_checked, rules)
