-- `walk_check::plant::behind` meets its contract. Assumes nothing.
use lib.ListN.{length}
use Rattle.files.specs.Word.{words}
use Rattle.files.specs.Read.{left_of}
use Rattle.walk_check.proofs.Standing.{Seeking}
use Rattle.walk_check.proofs.plant.behind.Given as goal

abbrev pub invariant-loop-w : goal.invariant-loop-w
invariant-loop-w l = Seeking (words l.whole) l.x (left_of l.body)

abbrev pub decreases-loop-w : goal.decreases-loop-w
decreases-loop-w l = length (left_of l.body)
