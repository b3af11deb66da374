-- The laws of a table of sixteen-bit numbers in bytes: with them a caller takes the table as a function of the index, and never sees a byte.
use mathlib.Core.Path.{◌≡◌, refl, ap₂, ◌∙◌}
use mathlib.Core.Logic.{◌⊎◌, inl, inr, ⊎_elim}
use mathlib.Core.List.{List}
use Prim.Native.Nat.{ℕ, zero, suc, ◌+◌, ◌*◌, ◌/◌, ◌%◌, ◌^◌, ◌<◌}
use native.Mathlib.Omega.{arith}
use lib.ListN.{length, get_or, set, replicate, length-set}
use lib.Seq.{get_or-set_same, get_or-set_other, lt-length-set}
use Rattle.sets.specs.Table.{half, put_half}
use Rattle.sets.proofs.Cases.{ne_cases}

-- ---- what a store leaves

pub length_put : (w : List ℕ) (b i v : ℕ) → length (put_half w b i v) ≡ length w
unfolding put_half
length_put w b i v = simp length-set

-- any byte outside the two
pub byte_put : (w : List ℕ) (b i v k : ℕ) → (k < b + 2 * i) ⊎ (b + 2 * i + 1 < k) → get_or (put_half w b i v) k 0 ≡ get_or w k 0
unfolding put_half
byte_put w b i v k o =
    get_or-set_other (set w (b + 2 * i) (v % 256)) (b + 2 * i + 1) k (v / 256) 0 (λ e. ⊎_elim (λ l. omega arith) (λ l. omega arith) o)
    ∙ get_or-set_other w (b + 2 * i) k (v % 256) 0 (λ e. ⊎_elim (λ l. omega arith) (λ l. omega arith) o)

-- the number itself
pub half_same : (w : List ℕ) (b i v : ℕ) → b + 2 * i + 1 < length w → half (put_half w b i v) b i ≡ v
unfolding put_half half
half_same w b i v h =
    let l : b + 2 * i < length w = omega arith in
    rw (
      get_or-set_same (set w (b + 2 * i) (v % 256)) (b + 2 * i + 1) (v / 256) 0 (lt-length-set w (b + 2 * i) (v % 256) h),
      get_or-set_other (set w (b + 2 * i) (v % 256)) (b + 2 * i + 1) (b + 2 * i) (v / 256) 0 (omega arith),
      get_or-set_same w (b + 2 * i) (v % 256) 0 l,
    ) (omega arith)

-- a number that lies apart, in this table or in another
pub half_apart : (w : List ℕ) (b i v b' j : ℕ) → (b' + 2 * j + 1 < b + 2 * i) ⊎ (b + 2 * i + 1 < b' + 2 * j) → half (put_half w b i v) b' j ≡ half w b' j
unfolding half
half_apart w b i v b' j o =
    ap₂ (λ (x y : ℕ). x + 256 * y)
    (byte_put w b i v (b' + 2 * j) (⊎_elim (λ l. inl (omega arith)) (λ l. inr (omega arith)) o))
    (byte_put w b i v (b' + 2 * j + 1) (⊎_elim (λ l. inl (omega arith)) (λ l. inr (omega arith)) o))

-- another number of the same table
pub half_other : (w : List ℕ) (b i v j : ℕ) → (j ≡ i → ⊥) → half (put_half w b i v) b j ≡ half w b j
half_other w b i v j n =
    half_apart w b i v b j (⊎_elim (λ l. inl (omega arith)) (λ l. inr (omega arith)) (ne_cases j i n))

-- every number of a list of bytes fits
pub half_lt : (w : List ℕ) (b i : ℕ) → ((k : ℕ) → get_or w k 0 < 256) → half w b i < 2 ^ 16
unfolding half
half_lt w b i h = omega (arith, h (b + 2 * i), h (b + 2 * i + 1))

-- two bytes of zero
pub half_zero : (w : List ℕ) (b i : ℕ) → get_or w (b + 2 * i) 0 ≡ 0 → get_or w (b + 2 * i + 1) 0 ≡ 0 → half w b i ≡ 0
unfolding half
half_zero w b i e f = rw (e, f)

-- a cleared buffer has only zeros
pub zero_at : (n k : ℕ) → get_or {A = ℕ} (replicate n 0) k 0 ≡ 0
zero_at zero k = refl
zero_at (suc n) zero = refl
zero_at (suc n) (suc k) = zero_at n k
