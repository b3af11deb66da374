-- `table::put16` meets its contract. Assumes nothing.
use borrow.Author.Rules.{rules}
use Rattle.sets.specs.Table.{put_half}
use Rattle.sets.proofs.table.put16.Goals as goal

pub returns : goal.returns
unfolding put_half
returns c = search rules
