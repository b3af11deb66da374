-- `bundles::overall::check_headers` meets its contract.
-- Assumes nothing.
use Prim.Native.Nat.{◌-◌, ◌/◌}
use lib.ListN.{length}
use Rattle.files.specs.Word.{words}
use Rattle.files.specs.Bundle.{headers, headers_check}
use Rattle.bundles.proofs.Repeats.{Heading}
use Rattle.bundles.proofs.overall.check_headers.Given as goal

abbrev pub invariant-loop-start : goal.invariant-loop-start
invariant-loop-start l = Heading l.bundle l.n (headers_check (headers (length (words l.bundle)) (words l.bundle))) l.sites l.start

abbrev pub decreases-loop-start : goal.decreases-loop-start
decreases-loop-start l = length l.bundle / 4 - l.start
