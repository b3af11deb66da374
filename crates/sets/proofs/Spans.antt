-- Numbers one after another, and the words of each. Assumes nothing.
use mathlib.Core.Path.{◌≡◌, refl, sym, ◌∙◌, ap}
use mathlib.Core.Logic.{◌↔◌}
use mathlib.Core.List.{List, [], ◌∷◌, ◌++◌, map, flatten, append-nil, append_assoc}
use Prim.Native.Nat.{ℕ, zero, suc, ◌+◌, ◌≤◌, ◌<◌}
use native.Mathlib.Omega.{arith}
use native.Mathlib.Decide.{dec_le}
use lib.ListN.{length}
use Rattle.sets.specs.Sets.{Mem, here, there, Ascending, span}

pub span_length : (k d : ℕ) → length (span k d) ≡ d
span_length k zero = refl
span_length k (suc d) = ap suc (span_length (suc k) d)

pub span_iff : (k d x : ℕ) → Mem x (span k d) ↔ ((k ≤ x) × (x < k + d))
span_iff k d x = (to k d, λ h. from k d h.0 h.1)
  where
    to : (k d : ℕ) → Mem x (span k d) → (k ≤ x) × (x < k + d)
    to k (suc d) (here e) = omega arith
    to k (suc d) (there m) = omega (arith, to (suc k) d m)
    to k zero x'' = elim x'' [ ]

    from : (k d : ℕ) → k ≤ x → x < k + d → Mem x (span k d)
    from k zero h l = absurd (omega arith)
    from k (suc d) h l = elim (dec_le x k) [ yes e ↦ here {x = k} (omega arith) | no e ↦ there (from (suc k) d (omega arith) (omega arith)) ]

pub span_ascending : (k d : ℕ) → Ascending (span k d)
span_ascending k zero = tt
span_ascending k (suc d) = (λ y m. omega (arith, (span_iff (suc k) d y).0 m), span_ascending (suc k) d)

-- the words of d numbers from k on, each by f
abbrev pub each : (ℕ → List ℕ) → ℕ → ℕ → List ℕ
each f k d = flatten (map f (span k d))

-- one number more
pub each_next : (f : ℕ → List ℕ) (k d : ℕ) → each f k d ++ f (k + d) ≡ each f k (suc d)
unfolding flatten
each_next f k zero = ap f (omega arith) ∙ sym (append-nil (f k))
each_next f k (suc d) =
    append_assoc (f k) (each f (suc k) d) (f (k + suc d))
    ∙ ap (f k ++◌) (ap (λ x. each f (suc k) d ++ f x) (omega arith) ∙ each_next f (suc k) d)

-- one word each
pub each_one : (g : ℕ → ℕ) (k d : ℕ) → each (λ x. g x ∷ []) k d ≡ map g (span k d)
unfolding flatten
each_one g k zero = refl
each_one g k (suc d) = ap (g k ∷◌) (each_one g (suc k) d)
