-- `kinds::count::count_kind` meets its contract.
-- Assumes nothing.
use lib.ListN.{length, drop}
use Rattle.sets.specs.Sets.{filter}
use Rattle.files.specs.Word.{words}
use Rattle.files.specs.Read.{left_of}
use Rattle.files.proofs.Counts.{Counting}
use Rattle.kinds.specs.Kinds.{of_kind}
use Rattle.kinds.proofs.count.count_kind.Given as goal

abbrev pub invariant-loop-w : goal.invariant-loop-w
invariant-loop-w l = Counting (of_kind l.k l.mark) l.bytes (length (filter (of_kind l.k l.mark) (drop l.from (words l.bytes)))) l.count (left_of l.w-iterator)
