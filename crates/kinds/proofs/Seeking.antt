-- Laws of the search for the first word that passes a test. Assumes nothing.
use mathlib.Core.Path.{◌≡◌}
use mathlib.Core.Bool.{Bool, true, false}
use mathlib.Core.Logic.{⊎_elim}
use mathlib.Core.List.{List}
use Prim.Native.Nat.{ℕ, ◌+◌, ◌≤◌, ◌<◌}
use native.Mathlib.Omega.{arith}
use borrow.Author.Count.{below_more}
use lib.ListN.{length, get_or}
use Rattle.sets.proofs.Cases.{lt_or_le, clash}
use Rattle.kinds.specs.Seek.{NoneBefore, FirstThat}

pub none_first : (p : ℕ → Bool) (ws : List ℕ) → NoneBefore p ws 0
none_first p ws = record { within = omega arith; before = λ i l. absurd (omega arith) }

module _ {p : ℕ → Bool} {ws : List ℕ} {k : ℕ} (f : NoneBefore p ws k) where
  module _ {w : ℕ} {b : Bool} (e : w ≡ get_or ws k 0) (h : b ≡ p w) where
    pub none_more : b ≡ false → k < length ws → NoneBefore p ws (k + 1)
    none_more n l = record { within = omega arith; before = below_more _ _ f.before (rw (← e, ← h) n) }

    pub first_found : b ≡ true → FirstThat p ws k
    first_found n = record { none = f; found = λ l. rw (← e, ← h) n }

  pub first_none : length ws ≤ k → FirstThat p ws k
  first_none n = record { none = f; found = λ l. absurd (omega arith) }

-- where some word passes, the one found does
pub first_passes : {p : ℕ → Bool} {ws : List ℕ} {k : ℕ} → FirstThat p ws k → (j : ℕ) → j < length ws → p (get_or ws j 0) ≡ true → p (get_or ws k 0) ≡ true
first_passes {k = k} f j l t = f.found (⊎_elim (λ (h : j < k). absurd (clash t (f.none.before j h))) (λ h. omega arith) (lt_or_le j k))
