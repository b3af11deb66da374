-- Laws of going from header to header: for the proofs of the functions. Assumes nothing.
use mathlib.Core.Path.{◌≡◌, refl, sym, ◌∙◌}
use mathlib.Core.Bool.{Bool, true, false, ◌&&◌}
use mathlib.Core.List.{List, [], ◌∷◌}
use Prim.Native.Nat.{ℕ, zero, suc, ◌+◌, ◌-◌, ◌≤◌, ◌<◌}
use native.Mathlib.Omega.{arith}
use lib.Dec.{leb, ltb}
use lib.ListN.{length, get_or}
use lib.Seq.{take_all, take-nil, drop-nil}
use Rattle.path_bundles.specs.Split.{bytes_in, file_in, behind, split, uses_up}
use Rattle.path_bundles.specs.Place.{file_at}

-- a header that says more than there is gets all, and nothing stands behind it
pub file_all : (s : List ℕ) {n : ℕ} → n ≡ bytes_in s → length s < n → s ≡ file_in s
file_all s e h = sym (take_all (bytes_in s) s (omega (arith, e)))

and_all : (a b c : Bool) → (a && b && c) ≡ ((a && b) && c)
and_all true b c = refl
and_all false b c = refl

-- after i of at most `most` files, whether the rest is used up comes to x
pub record Using (most : ℕ) (x : Bool) (rest : List ℕ) (i : ℕ) : Type 0 where
  pub same : uses_up (most - i) rest ≡ x

pub using_first : (most : ℕ) (s : List ℕ) → Using most (uses_up most s) s 0
using_first most s = let e : most - 0 ≡ most = omega arith in record { same = rw e }

module _ {most i : ℕ} {x : Bool} {s : List ℕ} (u : Using most x s i) where
  module _ (l : i < most) (h : 0 < length s) {n : ℕ} (e : n ≡ bytes_in s) where
    step : ((ltb 0 n && leb n (length s)) && uses_up (most - (i + 1)) (behind s)) ≡ x
    step = let k : most - i ≡ suc (most - (i + 1)) = omega arith in rw e (sym (by (most - (i + 1)) s h) ∙ rw k at u.same)
      where
        by : (k : ℕ) (s : List ℕ) → 0 < length s → uses_up (suc k) s ≡ ((ltb 0 (bytes_in s) && leb (bytes_in s) (length s)) && uses_up k (behind s))
        by k [] h = absurd (omega arith)
        by k (b ∷ s) h = and_all (ltb 0 (bytes_in (b ∷ s))) (leb (bytes_in (b ∷ s)) (length (b ∷ s))) (uses_up k (behind (b ∷ s)))

    pub using_more : {r : List ℕ} → (ltb 0 n && leb n (length s)) ≡ true → r ≡ behind s → Using most x r (i + 1)
    using_more q f = record { same = rw f (rw q at step) }

-- after i files, the file of the index is that of the rest
pub record Going (f : List ℕ) (index : ℕ) (rest : List ℕ) (i : ℕ) : Type 0 where
  pub same : file_at (index - i) rest ≡ f

pub going_first : (index : ℕ) (s : List ℕ) → Going (file_at index s) index s 0
going_first index s = let e : index - 0 ≡ index = omega arith in record { same = rw e }

pub going_more : {f : List ℕ} {index i : ℕ} {s r : List ℕ} → Going f index s i → i < index → r ≡ behind s → Going f index r (i + 1)
going_more {index = index} {i = i} g l e = let k : index - i ≡ suc (index - (i + 1)) = omega arith in record { same = rw e (rw k at g.same) }

pub going_last : {f : List ℕ} {index i : ℕ} {s r : List ℕ} → Going f index s i → index ≤ i → r ≡ file_in s → r ≡ f
going_last {index = index} {i = i} g l e = let z : index - i ≡ 0 = omega arith in e ∙ rw z at g.same

-- ---- the files of a split

no_file : (i : ℕ) → file_at i [] ≡ []
no_file zero = take-nil (bytes_in [])
no_file (suc i) = rw (drop-nil {A = ℕ} (bytes_in [])) (no_file i)

-- the file of an index is the split's, and empty past the last
pub file_split : (most i : ℕ) (s : List ℕ) → i < most → file_at i s ≡ get_or (split most s) i []
file_split zero i s h = absurd (omega arith)
file_split (suc k) zero [] h = take-nil (bytes_in [])
file_split (suc k) zero (b ∷ s) h = refl
file_split (suc k) (suc i) [] h = no_file (suc i)
file_split (suc k) (suc i) (b ∷ s) h = file_split k i (behind (b ∷ s)) (omega arith)

split_none : (k : ℕ) → split k [] ≡ []
split_none zero = refl
split_none (suc k) = refl

pub split_step : (k : ℕ) (s : List ℕ) → 0 < length s → length (split (suc k) s) ≡ suc (length (split k (behind s)))
split_step k [] h = absurd (omega arith)
split_step k (b ∷ s) h = refl

-- i files are met, and as many come behind them as there are
pub record Counting (most x : ℕ) (rest : List ℕ) (i : ℕ) : Type 0 where
  pub same : i + length (split (most - i) rest) ≡ x

pub counting_first : (most : ℕ) (s : List ℕ) → Counting most (length (split most s)) s 0
counting_first most s = let e : most - 0 ≡ most = omega arith in record { same = rw e (omega arith) }

module _ {most x i : ℕ} {s : List ℕ} (u : Counting most x s i) where
  pub counting_none : length s ≡ 0 → i ≡ x
  counting_none h = omega (arith, u.same, by (most - i) s h)
    where
      by : (k : ℕ) (s : List ℕ) → length s ≡ 0 → length (split k s) ≡ 0
      by k [] h = rw (split_none k)
      by k (b ∷ s) h = absurd (omega arith)

  pub counting_last : i ≡ most → i ≡ x
  counting_last e = let z : most - i ≡ 0 = omega arith in omega (arith, rw z at u.same)

  pub counting_more : {r : List ℕ} → i < most → 0 < length s → r ≡ behind s → Counting most x r (i + 1)
  counting_more l h e =
      let k : most - i ≡ suc (most - (i + 1)) = omega arith in
      record { same = rw e (omega (arith, rw k at u.same, split_step (most - (i + 1)) s h)) }
