-- The root's pair entered at the place of the first root's door, where a bundle has one root and no door twice. Assumes nothing.
use mathlib.Core.Path.{◌≡◌, refl, sym, ◌∙◌}
use mathlib.Core.Logic.{inl, inr}
use mathlib.Core.Bool.{Bool, true}
use mathlib.Core.List.{List, [], ◌∷◌}
use Prim.Native.Nat.{ℕ, suc, ◌<◌}
use native.Mathlib.Omega.{arith}
use lib.ListN.{length, get_or, length-map}
use Rattle.sets.specs.Sets.{Mem, here, there, filter}
use Rattle.sets.proofs.Tests.{either, passed}
use Rattle.sets.proofs.Cases.{and_left}
use Rattle.sets.proofs.Filter.{map_filter_iff}
use Rattle.sets.proofs.Lengths.{at_mem}
use Rattle.files.specs.Field.{node_of, pair, pair_node, pair_state}
use Rattle.files.specs.Reply.{is_door_word, roots}
use Rattle.files.proofs.Fields.{pair_node_lem, pair_state_lem}
use Rattle.kinds.specs.Seek.{FirstThat}
use Rattle.kinds.proofs.Seeking.{first_passes}
use Rattle.door_index.specs.Index.{DoorsOnce}
use Rattle.door_index.proofs.Doors.{door_here}
use Rattle.hub_search.specs.Search.{is_root_word, Entered, PairsEntered, Placed, IsRoot}
use Rattle.hub_search.proofs.Places.{at_within}
use Rattle.hub_search.proofs.Growing.{entered_pair, grown_iff}

-- a word that passes has a place
passes_at : (p : ℕ → Bool) (ws : List ℕ) → 0 < length (filter p ws) → (i : ℕ) × (p (get_or ws i 0) ≡ true)
passes_at p [] l = absurd (omega arith)
passes_at p (w ∷ ws) l = elim (either (p w)) [
  | inl t ↦ (0, t)
  | inr t ↦ let (i, h) = passes_at p ws (rw t at l) in (suc i, h)
]

-- one member is all
only_member : (xs : List ℕ) (a b : ℕ) → length xs ≡ 1 → Mem a xs → Mem b xs → a ≡ b
only_member [] a b e m n = absurd (omega arith)
only_member (x ∷ []) a b e (here h) (here k) = h ∙ sym k
only_member (x ∷ []) a b e (there m) n = elim m [ ]
only_member (x ∷ []) a b e (here h) (there n) = elim n [ ]
only_member (x ∷ (y ∷ xs)) a b e m n = absurd (omega arith)

module _ (ws : List ℕ) (k : ℕ) (one : length (roots ws) ≡ 1) (f : FirstThat is_root_word ws k) where
  root_word_lem : is_root_word (get_or ws k 0) ≡ true
  root_word_lem =
      let (i, t) = passes_at is_root_word ws (omega (arith, one, length-map (filter is_root_word ws) node_of)) in
      first_passes f i (at_within is_root_word refl ws i t) t

  pub root_at : is_door_word (get_or ws k 0) ≡ true
  root_at = and_left (is_door_word (get_or ws k 0)) _ root_word_lem

  abbrev root : ℕ
  root = node_of (get_or ws k 0)

  root_mem : Mem root (roots ws)
  root_mem = (map_filter_iff node_of is_root_word root ws).1 (get_or ws k 0, at_mem 0 ws k (at_within is_root_word refl ws k root_word_lem), passed root_word_lem, refl)

  pub root_entered : {d : ℕ} {w w' : List ℕ} → DoorsOnce ws → Entered ws d w w' k 0 → PairsEntered ws d (Placed ws (IsRoot ws)) w w'
  root_entered once g =
      grown_iff (entered_pair (pair root 0) g (rw (pair_node_lem root 0 (omega arith)) (door_here k once root_at)) (sym (pair_state_lem root 0 (omega arith))))
      (λ j q (c, e, at, p). (c, rw e (pair_state_lem root 0 (omega arith), rw (pair_node_lem root 0 (omega arith)) root_mem), at, p))
      (λ j q (c, (z, m), at, p). (c, is_root_lem c z m, at, p))
    where
      is_root_lem : (c : ℕ) → pair_state c ≡ 0 → Mem (pair_node c) (roots ws) → c ≡ pair root 0
      is_root_lem c z m = let e = only_member (roots ws) (pair_node c) root one m root_mem in omega arith
