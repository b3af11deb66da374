-- `kinds::find::find_kind` meets its contract. Assumes nothing.
use Rattle.files.specs.Word.{words}
use Rattle.kinds.specs.Kinds.{of_kind}
use Rattle.kinds.specs.Seek.{NoneBefore}
use Rattle.kinds.proofs.find.find_kind.Given as goal

abbrev pub invariant-loop-i : goal.invariant-loop-i
invariant-loop-i l = NoneBefore (of_kind l.k l.mark) (words l.bytes) l.i
