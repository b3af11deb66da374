-- The end of a call: what `withhold` and `settle` leave, after a refusal and after an acceptance. Assumes nothing.
use mathlib.Core.Path.{◌≡◌, refl}
use mathlib.Core.List.{List}
use Prim.Native.Nat.{ℕ, zero, suc}
use native.Mathlib.Omega.{arith}
use lib.ListN.{length}
use Rattle.files.specs.Outcome.{zeros, left}
use Rattle.output.specs.Frame.{withheld, settled}

-- k is what the code has for the number
pub withheld_refused : {k n : ℕ} (out : List ℕ) {o : List ℕ} → k ≡ n → (k ≡ 0 → ⊥) → o ≡ zeros (length out) → o ≡ withheld n out
unfolding withheld
withheld_refused {n = zero} out e h z = absurd (h e)
withheld_refused {n = suc n} out e h z = z

pub withheld_passed : {k n : ℕ} (out : List ℕ) → k ≡ n → k ≡ 0 → out ≡ withheld n out
unfolding withheld
withheld_passed {n = zero} out e z = refl
withheld_passed {n = suc n} out e z = absurd (omega (arith, e, z))

pub settled_by : {k n : ℕ} (out work : List ℕ) {o w : List ℕ} → k ≡ n → o ≡ withheld n out → w ≡ zeros (length work) → left k o w ≡ settled n out work
unfolding settled
settled_by out work k e f = rw (k, e, f)
