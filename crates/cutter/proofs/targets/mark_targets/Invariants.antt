-- `cutter::targets::mark_targets` meets its contract.
-- Assumes nothing.
use Rattle.files.specs.Word.{words}
use Rattle.files.specs.Read.{left_of}
use Rattle.cutter.proofs.Passes.{Marking}
use Rattle.cutter.proofs.targets.mark_targets.Given as goal

abbrev pub invariant-loop-w : goal.invariant-loop-w
invariant-loop-w l = Marking (words l.whole) l.cuts l.site l.initial.work l.work l.place (left_of l.w-iterator)
