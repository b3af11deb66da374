-- `enter::walk` meets its contract. The invariant: the words from i to x are edge words, their slots were entered, and the stack holds the
-- nodes that wait. Assumes nothing.
use Prim.Native.Nat.{◌-◌}
use lib.ListN.{length}
use Rattle.files.specs.Word.{words}
use Rattle.entering.specs.Entering.{Hit, Walked, Waiting}
use Rattle.entering.proofs.Walking.{Run}
use Rattle.entering.proofs.enter.walk.Given as goal

abbrev pub invariant-loop-work : goal.invariant-loop-work
invariant-loop-work l = Run (words l.part) l.i l.x × Walked (words l.part) l.outside (Hit (words l.part) l.initial.work l.i l.u l.x) l.initial.work l.work × Waiting (words l.part) l.outside l.work l.top

abbrev pub decreases-loop-work : goal.decreases-loop-work
decreases-loop-work l = length (words l.part) - l.x
