-- `listing::rows::row_length` meets its contract. Assumes nothing.
use mathlib.Core.List.{[]}
use native.Mathlib.Omega.{arith}
use Rattle.listing.proofs.Rowing.{states_few, pairs_few}
use Rattle.listing.proofs.rows.row_length.Goals as goal

pub overflow_add-n : goal.overflow_add-n
overflow_add-n c =
    omega (arith, c.size.ensures, states_few c.states_at.result, c.loop-k.invariant.is [], pairs_few [] c.args.work.now c.loop-k.k)
