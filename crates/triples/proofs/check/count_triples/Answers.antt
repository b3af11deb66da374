-- `triples::check::count_triples` meets its contract. Assumes nothing.
use borrow.Author.Rules.{rules}
use Rattle.files.proofs.Words.{words_length}
use Rattle.triples.proofs.check.count_triples.Goals as goal

pub returns : goal.returns
returns c = search (words_length, rules)
