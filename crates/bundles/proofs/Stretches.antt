-- Laws of a bundle read file by file: the file at the front of a stretch, and the files that are left.
-- Assumes nothing.
use mathlib.Core.Path.{◌≡◌, refl, sym, ap, ◌∙◌}
use mathlib.Core.List.{List, [], ◌∷◌}
use Prim.Native.Nat.{ℕ, zero, suc, ◌-◌, ◌*◌, ◌/◌, ◌≤◌, ◌<◌}
use native.Mathlib.Numerals.{sub-one}
use native.Mathlib.Omega.{arith}
use lib.ListN.{length, get_or, take, drop, length-drop}
use lib.Seq.{take-nil, get_or-take, length-take-le}
use Rattle.bundles.specs.declared.bundle.Trip.{Trip}
use Rattle.files.specs.Word.{words}
use Rattle.files.specs.Field.{size_of}
use Rattle.files.specs.Refuse.{◌then◌}
use Rattle.files.specs.Bundle.{files_check}
use Rattle.bundles.specs.Stretch.{head_check, front_check, kind_in, body_in, files_in}
use Rattle.files.proofs.Checks.{checks, then_iff, then_assoc, refused_first, passed_first}
use Rattle.files.proofs.Words.{words_length, words_rest, words_take}

-- an accepted header has a word at least, and no more than there are
sized : (kind n h : ℕ) → head_check kind n h ≡ 0 → (0 < size_of h) × (size_of h ≤ n)
unfolding head_check
sized kind n h e = let t = (simp checks at e).1 in (t.0.0, t.1)

drop_take : (n : ℕ) (ws : List ℕ) → drop 1 (take n ws) ≡ take (n - 1) (drop 1 ws)
drop_take zero ws = refl
drop_take (suc n) [] = rw take-nil
drop_take (suc n) (w ∷ ws) = rw sub-one

-- for the proof of `read_file`, of bytes s
module _ (s : List ℕ) (trip : Trip) {h k n : ℕ} (eh : h ≡ get_or (words s) 0 0) (ek : k ≡ kind_in trip) (en : n ≡ head_check k (length s / 4) h) where
  head : n ≡ head_check (kind_in trip) (length (words s)) (get_or (words s) 0 0)
  head = rw (words_length s, ← eh, ← ek) en

  pub stretch_refused : (n ≡ 0 → ⊥) → n ≡ front_check (kind_in trip) (body_in trip) (words s)
  unfolding front_check
  stretch_refused z = refused_first _ _ z head

  module _ {len : ℕ} (z : n ≡ 0) (el : len ≡ size_of h) where
    within : (0 < len) × (4 * len ≤ length s)
    within = let t = sized k (length s / 4) h (sym en ∙ z) in omega arith

    pub stretch_taken : 4 * len ≡ length (take (4 * len) s)
    stretch_taken = sym (length-take-le (4 * len) s within.1)

    pub stretch_next : {m : ℕ} → m ≡ body_in trip (get_or (words (take (4 * len) s)) 0 0) (drop 1 (words (take (4 * len) s)))
        → m ≡ front_check (kind_in trip) (body_in trip) (words s)
    unfolding front_check
    stretch_next {m} em =
        let l : len ≡ size_of (get_or (words s) 0 0) = el ∙ ap size_of eh in
        let b : m ≡ body_in trip (get_or (words s) 0 0) (take (size_of (get_or (words s) 0 0) - 1) (drop 1 (words s)))
        = em ∙ rw (words_take len s, get_or-take len (words s) 0 0 within.0, drop_take len (words s), l) in
        passed_first _ _ z head b

then_same : (a b d : ℕ) → (a ≡ 0 → b ≡ d) → (a then b) ≡ (a then d)
then_same zero b d h = h refl
then_same (suc a) b d h = refl

drop_first_lem : (n w : ℕ) (ws : List ℕ) → 0 < n → drop n (w ∷ ws) ≡ drop (n - 1) ws
drop_first_lem zero w ws p = absurd (omega arith)
drop_first_lem (suc n) w ws p = rw sub-one

-- the check of a bundle, file by file; as many turns as there are words are enough
module _ (kind : ℕ) (body : ℕ → List ℕ → ℕ) where
  front_sized : (ws : List ℕ) → front_check kind body ws ≡ 0 → (0 < size_of (get_or ws 0 0)) × (size_of (get_or ws 0 0) ≤ length ws)
  unfolding front_check
  front_sized ws e = sized kind (length ws) (get_or ws 0 0) ((then_iff _ _).0 e).0

  files_cons : (k h : ℕ) (ws : List ℕ)
      → files_check kind body (suc k) (h ∷ ws) ≡ (front_check kind body (h ∷ ws) then files_check kind body k (drop (size_of h - 1) ws))
  unfolding front_check head_check
  files_cons k h ws = simp then_assoc

  turns : (f g : ℕ) (ws : List ℕ) → length ws ≤ f → length ws ≤ g → files_check kind body f ws ≡ files_check kind body g ws
  turns zero zero ws p q = refl
  turns zero (suc g) [] p q = refl
  turns zero (suc g) (h ∷ ws) p q = absurd (omega arith)
  turns (suc f) zero [] p q = refl
  turns (suc f) zero (h ∷ ws) p q = absurd (omega arith)
  turns (suc f) (suc g) [] p q = refl
  turns (suc f) (suc g) (h ∷ ws) p q =
      files_cons f h ws
      ∙ ap (λ n. front_check kind body (h ∷ ws) then n)
      (let l = length-drop (size_of h - 1) ws in turns f g (drop (size_of h - 1) ws) (omega arith) (omega arith))
      ∙ sym (files_cons g h ws)

  files_step : (ws : List ℕ) → 0 < length ws
      → files_check kind body (length ws) ws
      ≡ (front_check kind body ws then files_check kind body (length (drop (size_of (get_or ws 0 0)) ws)) (drop (size_of (get_or ws 0 0)) ws))
  files_step [] p = absurd (omega arith)
  files_step (h ∷ ws) p =
      files_cons (length ws) h ws
      ∙ then_same (front_check kind body (h ∷ ws)) _ _ (λ z.
      let l = length-drop (size_of h - 1) ws in
      rw (drop_first_lem (size_of h) h ws (front_sized (h ∷ ws) z).0)
      (turns (length ws) (length (drop (size_of h - 1) ws)) (drop (size_of h - 1) ws) (omega arith) (omega arith)))

-- for the proof of `check_files`: of the bytes s that are left, the files come to x
pub record Bundling (trip : Trip) (x : ℕ) (s : List ℕ) : Type 0 where
  pub same : files_in trip (words s) ≡ x

module _ {trip : Trip} {x : ℕ} {s : List ℕ} (f : Bundling trip x s) where
  -- n is the check of the first
  module _ {n : ℕ} (p : 4 ≤ length s) (en : n ≡ front_check (kind_in trip) (body_in trip) (words s)) where
    left : (n then files_in trip (drop (size_of (get_or (words s) 0 0)) (words s))) ≡ x
    left = rw en (sym (files_step (kind_in trip) (body_in trip) (words s) (omega (arith, words_length s))) ∙ f.same)

    pub bundling_refused : (n ≡ 0 → ⊥) → n ≡ x
    bundling_refused z = refused_first _ _ z refl ∙ left

    module _ {len : ℕ} (z : n ≡ 0) (el : len ≡ size_of (get_or (words s) 0 0)) where
      room : (0 < len) × (4 * len ≤ length s)
      room = let t = front_sized (kind_in trip) (body_in trip) (words s) (sym en ∙ z) in omega (arith, words_length s)

      pub bundling_within : 4 * len ≤ length s
      bundling_within = room.1

      pub bundling_less : length (take (length s - 4 * len) (drop (4 * len) s)) < length s
      bundling_less = let t = room in omega (arith, length-drop (4 * len) s, length-take-le (length s - 4 * len) (drop (4 * len) s))

      pub bundling_more : Bundling trip x (take (length s - 4 * len) (drop (4 * len) s))
      bundling_more = record { same = rw (words_rest len s, el) (passed_first _ _ z refl refl ∙ left) }
