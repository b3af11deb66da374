-- `witnesses::refusals::reply_checked` meets its contract. Assumes nothing.
use mathlib.Core.Path.{refl}
use mathlib.Core.List.{[], ◌∷◌}
use lib.ListN.{length}
use Rattle.sets.specs.Sets.{here}
use Rattle.visits.proofs.Visiting.{site_ready}
use Rattle.witnesses.proofs.refusals.reply_checked.Goals as goal

pub reply-requires : goal.reply-requires
reply-requires c = site_ready (length c.args.out.now ∷ []) c.check-whole.ensures (here refl) refl
