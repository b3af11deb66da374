-- `bundles::overall::has_twice` meets its contract.
-- Assumes nothing.
use Rattle.files.specs.Word.{words}
use Rattle.files.specs.Read.{left_of}
use Rattle.files.specs.Bundle.{twice}
use Rattle.bundles.proofs.Repeats.{nodes_of, Repeating}
use Rattle.bundles.proofs.overall.has_twice.Given as goal

abbrev pub invariant-loop-w : goal.invariant-loop-w
invariant-loop-w l = Repeating l.k l.initial.work (twice (nodes_of l.k (words l.bundle))) l.work (left_of l.w-iterator)
