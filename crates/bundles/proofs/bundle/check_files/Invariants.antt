-- `bundles::bundle::check_files` meets its contract.
-- Assumes nothing.
use lib.ListN.{length}
use Rattle.files.specs.Word.{words}
use Rattle.bundles.specs.Stretch.{files_in}
use Rattle.bundles.proofs.Stretches.{Bundling}
use Rattle.bundles.proofs.bundle.check_files.Given as goal

abbrev pub invariant-loop-rest : goal.invariant-loop-rest
invariant-loop-rest l = Bundling l.trip (files_in l.trip (words l.bundle)) l.rest

abbrev pub decreases-loop-rest : goal.decreases-loop-rest
decreases-loop-rest l = length l.rest
