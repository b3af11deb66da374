-- Places of doors and of the words of their rows: which places a store leaves alone, and that index and stack have room beside each other.
-- Assumes nothing.
use mathlib.Core.Path.{◌≡◌, refl, ap, ◌∙◌}
use mathlib.Core.Logic.{inl, inr, ⊎_elim}
use mathlib.Core.Bool.{Bool, true, false, ◌&&◌}
use mathlib.Core.List.{List, [], ◌∷◌}
use Prim.Native.Nat.{ℕ, zero, suc, ◌+◌, ◌≤◌, ◌<◌}
use native.Mathlib.Omega.{arith}
use native.Mathlib.Numerals.{add-one}
use borrow.Author.Tests.{eqb-true}
use lib.ListN.{length, get_or, length-map}
use Rattle.sets.specs.Sets.{filter}
use Rattle.sets.specs.Table.{half}
use Rattle.sets.specs.Tally.{one, tally}
use Rattle.sets.proofs.Tests.{either}
use Rattle.sets.proofs.Cases.{and_left, and_right, or_elim, clash, not_known}
use Rattle.sets.proofs.Tallies.{tally_le, tally_front, tally_suc, tally_apart}
use Rattle.files.specs.Field.{kind_of, node_of}
use Rattle.files.specs.Reply.{is_door_word, is_row, is_reach}
use Rattle.files.specs.Limits.{bundle_words}
use Rattle.door_index.specs.Index.{door_nodes}
use Rattle.door_index.proofs.Ranking.{doors_few}
use Rattle.row_scan.specs.Following.{in_rows}
use Rattle.hub_search.specs.Search.{expands}

-- a word that passes a test which 0 does not pass stands among the words
pub at_within : (p : ℕ → Bool) → p 0 ≡ false → (ws : List ℕ) (i : ℕ) → p (get_or ws i 0) ≡ true → i < length ws
at_within p z [] i t = absurd (clash t z)
at_within p z (w ∷ ws) zero t = omega arith
at_within p z (w ∷ ws) (suc i) t = let l = at_within p z ws i t in omega arith

-- w is the word at k
pub word_rows : (ws : List ℕ) (k : ℕ) {w : ℕ} {b v : Bool} → w ≡ get_or ws k 0 → b ≡ in_rows w → b ≡ v → in_rows (get_or ws k 0) ≡ v
word_rows ws k ew eb t = rw (← ew, ← eb) t

pub rows_within : (ws : List ℕ) (k : ℕ) {w : ℕ} {b : Bool} → w ≡ get_or ws k 0 → b ≡ in_rows w → b ≡ true → k < length ws
rows_within ws k ew eb t = at_within in_rows refl ws k (word_rows ws k ew eb t)

-- a word of the rows is no door word
pub rows_no_door : (w : ℕ) → in_rows w ≡ true → is_door_word w ≡ false
rows_no_door w t = ⊎_elim (λ a. rw (eqb-true (kind_of w) 9 a)) (λ a. rw (eqb-true (kind_of w) 10 a)) (or_elim (is_row w) (is_reach w) t)

pub door_no_rows : (w : ℕ) → is_door_word w ≡ true → in_rows w ≡ false
door_no_rows w t = rw (eqb-true (kind_of w) 8 t)

module _ (ws : List ℕ) (j : ℕ) (t : expands ws j ≡ true) where
  pub expand_door : is_door_word (get_or ws j 0) ≡ true
  expand_door = and_left (is_door_word (get_or ws j 0)) _ t

  pub expand_rows : in_rows (get_or ws (suc j) 0) ≡ true
  expand_rows = and_right (is_door_word (get_or ws j 0)) _ t

  pub expand_within : suc j < length ws
  expand_within = at_within in_rows refl ws (suc j) expand_rows

-- the table is the same
module _ (ws : List ℕ) (few : length ws ≤ bundle_words) (F : ℕ → Bool) (w w' : List ℕ) (h : (i : ℕ) → i < bundle_words → half w' 0 i ≡ half w 0 i) where
  pub door_by_lem : (i : ℕ) → (is_door_word (get_or ws i 0) && F (half w' 0 i)) ≡ (is_door_word (get_or ws i 0) && F (half w 0 i))
  door_by_lem i = elim (either (is_door_word (get_or ws i 0))) [
    | inl t ↦ rw (h i (omega (arith, at_within is_door_word refl ws i t)))
    | inr t ↦ rw t
  ]

  pub rows_by : (i : ℕ) → (expands ws i && F (half w' 0 (suc i))) ≡ (expands ws i && F (half w 0 (suc i)))
  rows_by i = elim (either (expands ws i)) [
    | inl t ↦ rw (h (suc i) (omega (arith, expand_within ws i t)))
    | inr t ↦ rw t
  ]

-- Doors and rows share no word, so doors and the doors that can wait are no more than words

tally_filter : (p : ℕ → Bool) (ws : List ℕ) → tally (λ i. p (get_or ws i 0)) (length ws) ≡ length (filter p ws)
unfolding tally
tally_filter p [] = refl
tally_filter p (w ∷ ws) = tally_front (λ i. p (get_or (w ∷ ws) i 0)) (length ws) ∙ elim (either (p w)) [
  | inl t ↦ rw (t, tally_filter p ws) (omega arith)
  | inr t ↦ rw (t, tally_filter p ws) (omega arith)
]

pub room_both : (ws : List ℕ) → length (door_nodes ws) + tally (expands ws) (length ws) ≤ length ws
room_both ws = omega (arith, doors_few ws, length-map (filter is_door_word ws) node_of, tally_filter is_door_word ws, waiting, tally_apart door rows (length ws) (λ i l. door_no_rows (get_or ws i 0)))
  where
    door : ℕ → Bool
    door i = is_door_word (get_or ws i 0)

    rows : ℕ → Bool
    rows i = in_rows (get_or ws i 0)

    none : one (rows (length ws)) ≡ 0
    none = rw (not_known (λ (t : rows (length ws) ≡ true). let l = at_within in_rows refl ws (length ws) t in omega arith))

    waiting : tally (expands ws) (length ws) ≤ tally rows (length ws)
    waiting = omega (
      arith,
      tally_le (expands ws) (λ i. rows (suc i)) (length ws) (λ i l t. expand_rows ws i t),
      tally_front rows (length ws),
      tally_suc rows (length ws),
      ap (tally rows) (add-one (length ws)),
      none,
    )
