-- `from_triples::ends::add_all` meets its contract. Assumes nothing.
use borrow.Author.Rules.{rules}
use Rattle.from_triples.proofs.Ending.{gathering_more}
use Rattle.from_triples.proofs.ends.add_all.Goals as goal

pub loop-i-preserved : goal.loop-i-preserved
loop-i-preserved c = gathering_more c.loop-i.invariant (search rules) c.add_ends.ensures
