-- `to_triples::listing::write_triples` meets its contract. Assumes nothing.
use borrow.Author.Rules.{rules}
use Rattle.to_triples.proofs.Links.{listing_node, listing_edge, listing_last}
use Rattle.to_triples.proofs.listing.write_triples.Goals as goal

pub loop-w-preserved-then-is_node : goal.loop-w-preserved-then-is_node
loop-w-preserved-then-is_node c = search (listing_node, rules)

pub loop-w-preserved : goal.loop-w-preserved
loop-w-preserved c = listing_edge c.loop-w.invariant (search rules) c.is_node.ensures (search rules) c.write_triple-count.ensures c.write_triple-count.auto.out

pub returns : goal.returns
returns c = search (listing_last, rules)
