-- Splitting by headers' lengths: bytes that are used up are split, in one way; and files that were put together are found again. Assumes nothing.
use mathlib.Core.Path.{◌≡◌, refl, sym, ◌∙◌, ap}
use mathlib.Core.Logic.{◌↔◌}
use mathlib.Core.List.{List, [], ◌∷◌, ◌++◌, flatten}
use Prim.Native.Nat.{ℕ, zero, suc, ◌*◌, ◌/◌, ◌≤◌, ◌<◌}
use native.Mathlib.Omega.{arith}
use lib.Dec.{T}
use lib.ListN.{length, get_or, take, length-append, take-append-drop}
use lib.Seq.{take_at, drop_at, length-take-le, get_or-take}
use Rattle.sets.specs.Sets.{Mem, here, there}
use Rattle.sets.proofs.Sets.{on_cons}
use Rattle.files.specs.Word.{words}
use Rattle.files.specs.Field.{size_of}
use Rattle.files.specs.Limits.{bundle_words}
use Rattle.files.proofs.Checks.{checks}
use Rattle.files.proofs.Words.{words_take}
use Rattle.path_bundles.specs.Split.{bytes_in, file_in, behind, IsSplit, split, uses_up, split_check}

-- the header is in the file: its length is the same with whatever stands behind it, and without
header_taken : (s : List ℕ) (k : ℕ) → 0 < k → bytes_in (take (4 * k) s) ≡ bytes_in s
header_taken s k h = rw (words_take k s, get_or-take k (words s) 0 0 h)

pub file_sized : (s : List ℕ) → 0 < bytes_in s → bytes_in s ≤ length s → length (file_in s) ≡ bytes_in (file_in s)
file_sized s h l = length-take-le (bytes_in s) s l ∙ sym (header_taken s (size_of (get_or (words s) 0 0)) (omega arith))

-- bytes that are used up
pub split_is : (k : ℕ) (s : List ℕ) → T (uses_up k s) → IsSplit k s (split k s)
unfolding flatten
split_is zero [] t = record { some = λ f m. elim m [ ]; sized = λ f m. elim m [ ]; all = refl; few = omega arith }
split_is zero (b ∷ s) t = absurd t
split_is (suc k) [] t = record { some = λ f m. elim m [ ]; sized = λ f m. elim m [ ]; all = refl; few = omega arith }
split_is (suc k) (b ∷ s) t =
    let ((h, l), u) = simp checks at t in
    let r = split_is k (behind (b ∷ s)) u in
    record {
      some = on_cons (λ f. 0 < length f) (omega (arith, length-take-le (bytes_in (b ∷ s)) (b ∷ s) l)) r.some;
      sized = on_cons (λ f. length f ≡ bytes_in f) (file_sized (b ∷ s) h l) r.sized;
      all = ap (file_in (b ∷ s) ++◌) r.all ∙ take-append-drop (bytes_in (b ∷ s)) (b ∷ s);
      few = omega (arith, r.few);
    }

-- files that were put together: the first is at the front, and the rest behind it
module _ (f rest : List ℕ) (some : 0 < length f) (sized : length f ≡ bytes_in f) where
  front_bytes : length f ≡ bytes_in (f ++ rest)
  front_bytes =
      let k = size_of (get_or (words f) 0 0) in
      let e : take (4 * k) (f ++ rest) ≡ f = take_at f rest (4 * k) sized in
      sized ∙ sym (ap bytes_in e) ∙ header_taken (f ++ rest) k (omega arith)

  pub front_file : file_in (f ++ rest) ≡ f
  front_file = take_at f rest (bytes_in (f ++ rest)) front_bytes

  pub front_behind : behind (f ++ rest) ≡ rest
  front_behind = drop_at f rest (bytes_in (f ++ rest)) front_bytes

put_together : (k : ℕ) (fs : List (List ℕ)) → ((f : List ℕ) → Mem f fs → 0 < length f) → ((f : List ℕ) → Mem f fs → length f ≡ bytes_in f) → length fs ≤ k
    → (fs ≡ split k (flatten fs)) × T (uses_up k (flatten fs))
unfolding flatten
put_together zero [] p z l = (refl, tt)
put_together zero (f ∷ fs) p z l = absurd (omega arith)
put_together (suc k) [] p z l = (refl, tt)
put_together (suc k) ([] ∷ fs) p z l = absurd (omega (arith, p [] (here refl)))
put_together (suc k) ((b ∷ f) ∷ fs) p z l =
    let some = p (b ∷ f) (here refl) in
    let sized = z (b ∷ f) (here refl) in
    let (e, u) = put_together k fs (λ g m. p g (there m)) (λ g m. z g (there m)) (omega arith) in
    let n = front_bytes (b ∷ f) (flatten fs) some sized in
    let next = front_behind (b ∷ f) (flatten fs) some sized in (
      rw (front_file (b ∷ f) (flatten fs) some sized, next) (ap ((b ∷ f) ∷◌) e),
      simp checks ((omega (arith, n), omega (arith, n, length-append (b ∷ f) (flatten fs))), rw next u),
    )

-- there is one way to split, and where there is one the bytes are used up
pub split_one : (k : ℕ) (s : List ℕ) (fs : List (List ℕ)) → IsSplit k s fs → (fs ≡ split k s) × T (uses_up k s)
split_one k s fs r = rw (← r.all) (put_together k fs r.some r.sized r.few)

-- 17 is given exactly if there is no way to split the bytes, if there are none, or if they are over 8,192 words
pub split_iff : (most : ℕ) (s : List ℕ)
    → (split_check most s ≡ 0) ↔ ((0 < length s) × (length s / 4 ≤ bundle_words) × ((fs : List (List ℕ)) × IsSplit most s fs))
split_iff most s = (
  λ c. let ((h, l), u) = simp checks at c in (h, l, (split most s, split_is most s u)),
  λ (h, l, (fs, r)). simp checks ((h, l), (split_one most s fs r).1),
)
