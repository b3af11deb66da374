-- The counts that are not refused with 21, and how many words the dearest part and path have. Assumes nothing.
use mathlib.Core.Path.{◌≡◌, refl}
use mathlib.Core.Logic.{◌↔◌}
use mathlib.Core.List.{List, [], ◌∷◌, map, flatten}
use Prim.Native.Nat.{ℕ, zero, suc, ◌+◌, ◌-◌, ◌*◌, ◌^◌, ◌≤◌, ◌<◌}
use native.Mathlib.Omega.{arith}
use native.Mathlib.Nat.{le_trans, mul-le-mul_left, mul-le-mul_right}
use lib.ListN.{length, length-append, length-map}
use Rattle.sets.specs.Sets.{span}
use Rattle.sets.proofs.Spans.{span_length}
use Rattle.files.specs.Limits.{part_words}
use Rattle.files.proofs.Checks.{checks}
use Rattle.dearest.specs.Dearest.{dear_door, dear_part, dear_rest, dear_path, counts_check}

-- no zero, n not above 15, D + T not above 65,536, the part not over 4,096 words
pub record Counts (D T n : ℕ) : Type 0 where
  pub doors : 1 ≤ D
  pub targets : 1 ≤ T
  pub labels : 1 ≤ n
  pub few : n ≤ 15
  pub nodes : D + T ≤ 65536
  pub small : 1 + D * (1 + T) ≤ part_words

pub counts_iff : (D T n : ℕ) → (counts_check D T n ≡ 0) ↔ Counts D T n
counts_iff D T n = (
  λ e.
      let h = simp checks at e in
      record { doors = h.0.0.0.0.0; targets = h.0.0.0.0.1; labels = h.0.0.0.1; few = h.0.0.1; nodes = h.0.1; small = h.1 },
  λ c. simp checks (((((c.doors, c.targets), c.labels), c.few), c.nodes), c.small),
)

doors_length : (D T : ℕ) (xs : List ℕ) → length (flatten (map (dear_door D T) xs)) ≡ length xs * (1 + T)
unfolding flatten
doors_length D T [] = omega arith
doors_length D T (x ∷ xs) = simp (length-append, length-map, span_length) (omega (arith, doors_length D T xs))

pub part_length : (D T : ℕ) → length (dear_part D T) ≡ 1 + D * (1 + T)
unfolding dear_part
part_length D T = rw (doors_length D T (span 0 D), span_length 0 D) (omega arith)

rest_length : (k : ℕ) → length (dear_rest k) ≡ 2 * k + 1
rest_length zero = refl
rest_length (suc k) = omega (arith, rest_length k)

pub path_fits : (n : ℕ) → 1 ≤ n → length (dear_path n) ≡ 2 * n + 1
unfolding dear_path
path_fits n h = omega (arith, rest_length (n - 1))

-- sixty-four bits hold the count of the part's words
pub product_fits : (D T : ℕ) → D < 2 ^ 32 → T < 2 ^ 32 → D * (1 + T) ≤ (2 ^ 32 - 1) * 2 ^ 32
product_fits D T h k =
    let l : D ≤ 2 ^ 32 - 1 = omega arith in
    le_trans (mul-le-mul_left D (omega arith)) (mul-le-mul_right (2 ^ 32) l)
