-- `to_triples::listing::write_triple` meets its contract. Assumes nothing.
use borrow.Author.Rules.{rules}
use Rattle.to_triples.proofs.Links.{triple_written}
use Rattle.to_triples.proofs.listing.write_triple.Goals as goal

pub returns : goal.returns
returns c =
    triple_written _ _ _ _ c.push-one.ensures c.label.ensures c.push-two.ensures c.target.ensures c.push.ensures (search rules) (search rules)
