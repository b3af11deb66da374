-- `bundles::overall::clashes` meets its contract.
-- Assumes nothing.
use Rattle.bundles.specs.Stretch.{clashing}
use Rattle.bundles.proofs.overall.clashes.Goals as goal

pub returns : goal.returns
unfolding clashing
returns c = cc
