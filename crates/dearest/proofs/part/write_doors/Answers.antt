-- `dearest::part::write_doors` meets its contract. Assumes nothing.
use borrow.Author.Rules.{rules}
use Rattle.output.proofs.Spanning.{spanning_first, spanning_more}
use Rattle.dearest.proofs.part.write_doors.Goals as goal

pub loop-x-init : goal.loop-x-init
loop-x-init c = spanning_first (search rules)

pub loop-x-preserved : goal.loop-x-preserved
loop-x-preserved c =
    spanning_more c.loop-x.invariant c.loop-x-test.true (search rules) c.write_door-count.ensures
