-- `to_triples::call::write` meets its contract. Assumes nothing.
use borrow.Author.Rules.{rules}
use Rattle.to_triples.proofs.Answering.{triples_written}
use Rattle.to_triples.proofs.call.write.Goals as goal

pub returns : goal.returns
returns c =
    triples_written _ c.requires.1 c.requires.2 c.find_kind.ensures c.word_at.ensures c.node-root.ensures c.clear.ensures c.push-count.ensures
    (search rules) c.write_triples.ensures
