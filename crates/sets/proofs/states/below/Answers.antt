-- `states::below` meets its contract. Assumes nothing.
use mathlib.Core.Path.{◌≡◌, sym}
use Prim.Native.Nat.{ℕ, ◌*◌, ◌%◌, ◌^◌, ◌<◌}
use native.Mathlib.Nat.{one-mul, mod-eq_of_lt}
use lib.Pow.{pow-lt, pow_pos}
use Rattle.sets.proofs.Members.{length_below}
use Rattle.sets.proofs.states.below.Goals as goal

-- the shifted one
shifted : (q : ℕ) → q < 16 → 1 * 2 ^ q % 2 ^ 16 ≡ 2 ^ q
shifted q l = rw (one-mul (2 ^ q)) (mod-eq_of_lt (pow-lt l))

pub nonzero_rem-result : goal.nonzero_rem-result
nonzero_rem-result c = rw (shifted c.args.q c.requires) (pow_pos c.args.q)

pub returns : goal.returns
returns c = rw (shifted c.args.q c.requires) (sym (length_below c.args.s c.args.q))
