-- `states::lowest` meets its contract. Assumes nothing.
use mathlib.Core.Path.{refl}
use native.Mathlib.Omega.{arith}
use Rattle.sets.proofs.StateSets.{lowest_is}
use Rattle.sets.proofs.states.lowest.Goals as goal

pub returns : goal.returns
returns c =
    let l = lowest_is 16 c.args.s c.requires (omega arith) in
    record { is = refl; small = l.0; member = l.1; least = l.2 }
