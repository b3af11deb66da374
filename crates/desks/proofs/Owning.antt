-- What desks have by themselves, and the choice among them. Assumes nothing.
use mathlib.Core.Path.{◌≡◌, refl, sym, ◌∙◌, ap}
use mathlib.Core.Bool.{Bool, true, false}
use mathlib.Core.List.{List, [], ◌∷◌, ◌++◌, append_assoc}
use Prim.Native.Nat.{ℕ, zero, suc, ◌+◌, ◌*◌, ◌≤◌, ◌<◌}
use native.Mathlib.Omega.{arith}
use borrow.Author.Tests.{leb-true, leb-false, le-leb, lt-leb}
use lib.Dec.{leb}
use lib.ListN.{length, get_or, length-append, get_or-eq_default}
use Rattle.files.specs.Limits.{reply_words}
use Rattle.path_bundles.specs.Split.{behind, split}
use Rattle.path_bundles.specs.Place.{file_at}
use Rattle.path_bundles.proofs.Places.{file_split}
use Rattle.visits.specs.Answered.{Own, own_by, own}
use Rattle.visits.proofs.Visiting.{own_none}
use Rattle.choices.specs.Choice.{short_words}
use Rattle.desks.specs.Owns.{owns, size_of_own, short_part, long_part, short_sum, offered, chosen, replies_of}

-- nothing at all
abbrev pub nothing : Own
nothing = own_by 0 []

-- ---- one desk

-- a reply is short or long
pub data Sort (size : ℕ) : Type 0 where
  short : size ≤ short_words → leb size short_words ≡ true → short_part size ≡ size → long_part size ≡ 0 → Sort size
  long : short_words < size → leb size short_words ≡ false → short_part size ≡ 0 → long_part size ≡ size → Sort size

pub sort : (size : ℕ) → Sort size
sort size = by (leb size short_words) refl
  where
    by : (t : Bool) → leb size short_words ≡ t → Sort size
    by true t = short (leb-true size short_words t) t (rw t) (rw t)
    by false t = long (leb-false size short_words t) t (rw t) (rw t)

-- what it gets, in each of the three cases
module _ (taken : ℕ) (x : Own) where
  pub offered_short : size_of_own x ≤ short_words → offered taken x ≡ x
  offered_short h = rw (le-leb (size_of_own x) short_words h)

  pub offered_fits : short_words < size_of_own x → taken + size_of_own x ≤ reply_words → offered taken x ≡ x
  offered_fits h l = rw (lt-leb (size_of_own x) short_words h, le-leb (taken + size_of_own x) reply_words l)

  pub offered_over : short_words < size_of_own x → reply_words < taken + size_of_own x → offered taken x ≡ own_by 15 []
  offered_over h l = rw (lt-leb (size_of_own x) short_words h, lt-leb (taken + size_of_own x) reply_words l)

-- ---- several

abbrev pub long_sum : List Own → ℕ
long_sum [] = 0
long_sum (x ∷ xs) = long_part (size_of_own x) + long_sum xs

pub replies_append : (xs ys : List Own) → replies_of (xs ++ ys) ≡ replies_of xs ++ replies_of ys
replies_append [] ys = refl
replies_append (x ∷ xs) ys = ap (x.reply ++◌) (replies_append xs ys) ∙ sym (append_assoc x.reply (replies_of xs) (replies_of ys))

pub short_append : (xs ys : List Own) → short_sum (xs ++ ys) ≡ short_sum xs + short_sum ys
short_append [] ys = omega arith
short_append (x ∷ xs) ys = omega (arith, short_append xs ys)

-- short and long words together are all
pub words_parted : (xs : List Own) → length (replies_of xs) ≡ short_sum xs + long_sum xs
words_parted [] = refl
words_parted (x ∷ xs) = elim (sort (size_of_own x)) [
  | short h t p q ↦ omega (arith, length-append x.reply (replies_of xs), words_parted xs, p, q)
  | long h t p q ↦ omega (arith, length-append x.reply (replies_of xs), words_parted xs, p, q)
]

-- where only the first `few` desks have a reply, there are so many short words at most
pub short_few : (few : ℕ) (xs : List Own) → ((i : ℕ) → few ≤ i → (get_or xs i nothing).reply ≡ []) → short_sum xs ≤ short_words * few
short_few few [] h = omega arith
short_few zero (x ∷ xs) h =
    let z : size_of_own x ≡ 0 = ap length (h 0 (omega arith)) in
    let r = short_few zero xs (λ i l. h (suc i) (omega arith)) in
    elim (sort (size_of_own x)) [ short a t p q ↦ omega (arith, p, r, z) | long a t p q ↦ absurd (omega (arith, z)) ]
short_few (suc few) (x ∷ xs) h =
    let r = short_few few xs (λ i l. h (suc i) (omega arith)) in
    elim (sort (size_of_own x)) [ short a t p q ↦ omega (arith, p, r) | long a t p q ↦ omega (arith, p, r) ]

-- desks whose replies all fit, one after another, get them
pub chosen_front : (taken : ℕ) (xs ys : List Own) → taken + long_sum xs ≤ reply_words → chosen taken (xs ++ ys) ≡ xs ++ chosen (taken + long_sum xs) ys
unfolding chosen
chosen_front taken [] ys h = ap (λ t. chosen t ys) (omega arith)
chosen_front taken (x ∷ xs) ys h = elim (sort (size_of_own x)) [
  | short a t p q ↦
      let e : taken + 0 + long_sum xs ≡ taken + (0 + long_sum xs) = omega arith in
      rw (offered_short taken x a, q, chosen_front (taken + 0) xs ys (omega (arith, q)), e)
  | long a t p q ↦
      let e : taken + size_of_own x + long_sum xs ≡ taken + (size_of_own x + long_sum xs) = omega arith in
      rw (offered_fits taken x a (omega (arith, q)), q, chosen_front (taken + size_of_own x) xs ys (omega (arith, q)), e)
]

pub chosen_none : (taken : ℕ) → chosen taken [] ≡ []
unfolding chosen
chosen_none taken = refl

pub chosen_step : (taken : ℕ) (x : Own) (xs : List Own)
    → chosen taken (x ∷ xs) ≡ offered taken x ∷ chosen (taken + long_part (size_of_own (offered taken x))) xs
unfolding chosen
chosen_step taken x xs = refl

-- ---- the desks of a bundle

module _ (whole : ℕ) (part groups : List ℕ) where
  pub owns_length : (k : ℕ) (s : List ℕ) → length (owns whole part groups k s) ≡ k
  unfolding owns
  owns_length zero s = refl
  owns_length (suc k) s = ap suc (owns_length k (behind s))

  pub owns_at : (k i : ℕ) (s : List ℕ) → i < k → get_or (owns whole part groups k s) i nothing ≡ own whole part groups (file_at i s)
  unfolding owns
  owns_at zero i s h = absurd (omega arith)
  owns_at (suc k) zero s h = refl
  owns_at (suc k) (suc i) s h = owns_at k i (behind s) (omega arith)

  -- past the last path there is no reply
  pub owns_past : (k i : ℕ) (s : List ℕ) → length (split k s) ≤ i → i < k → (own whole part groups (file_at i s)).reply ≡ []
  owns_past k i s h l = own_none whole part groups (file_at i s) (file_split k i s l ∙ get_or-eq_default (split k s) [] h)
