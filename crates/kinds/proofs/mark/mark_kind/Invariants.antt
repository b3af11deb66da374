-- `kinds::mark::mark_kind` meets its contract.
-- Assumes nothing.
use Rattle.files.specs.Read.{left_of}
use Rattle.kinds.proofs.Marking.{Marking}
use Rattle.kinds.proofs.mark.mark_kind.Given as goal

abbrev pub invariant-loop-w : goal.invariant-loop-w
invariant-loop-w l = Marking l.k (left_of l.initial.w-iterator) l.initial.work l.work (left_of l.w-iterator)
