-- `from_triples::call::from_triples` meets its contract. Assumes nothing.
use borrow.Author.Rules.{rules}
use Rattle.output.proofs.Frame.{settles}
use Rattle.from_triples.proofs.call.from_triples.Goals as goal

pub returns : goal.returns
returns c = search (settles, rules)
