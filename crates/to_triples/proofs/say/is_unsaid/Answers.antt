-- `to_triples::say::is_unsaid` meets its contract. Assumes nothing.
use Rattle.to_triples.proofs.Saying.{unsaid_told}
use Rattle.to_triples.proofs.say.is_unsaid.Goals as goal

pub returns : goal.returns
returns c =
    unsaid_told _ _ _ c.word_at-w.ensures c.word_at.ensures c.is_edge.ensures c.node.ensures c.has.ensures c.is_node.ensures
    c.stopped.ensures c.root.ensures
