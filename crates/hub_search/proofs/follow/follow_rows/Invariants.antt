-- `hub_search::follow::follow_rows` meets its contract. The inner loop is left by both breaks: the outer one ends the search at a stray.
-- Assumes nothing.
use mathlib.Core.Path.{◌≡◌}
use Prim.Native.Nat.{◌≤◌}
use lib.ListN.{length}
use Rattle.files.specs.Word.{words}
use Rattle.hub_search.proofs.Seeks.{Sought}
use Rattle.hub_search.proofs.RowScans.{Following}
use Rattle.hub_search.proofs.follow.follow_rows.Given as goal

abbrev pub invariant-loop-at : goal.invariant-loop-at
invariant-loop-at l = Sought (words l.bundle) l.counts l.initial.work l.doors l.x l.start l.at × (l.work ≡ l.initial.work) × (l.top ≡ l.initial.top)

abbrev pub invariant-words : goal.invariant-words
invariant-words l = Following (words l.bundle) l.counts l.doors l.i l.s l.initial.work l.work l.rows l.k l.top × (l.k ≤ length (words l.bundle))
