-- `witnesses::refusals::ask_checked` meets its contract. Assumes nothing.
use mathlib.Core.Path.{refl}
use mathlib.Core.List.{[], ◌∷◌}
use lib.ListN.{length}
use native.Mathlib.Omega.{arith}
use Rattle.sets.specs.Sets.{here}
use Rattle.visits.proofs.Visiting.{site_ready}
use Rattle.witnesses.proofs.refusals.ask_checked.Goals as goal

pub ask-requires : goal.ask-requires
ask-requires c = (site_ready (length c.args.out.now ∷ []) c.check-whole.ensures (here refl) refl, omega arith)
