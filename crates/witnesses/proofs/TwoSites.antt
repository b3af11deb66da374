-- Two sites, each with all its links to doors of the other: a true cut of the plant that they hold together, with one root, and so givens of
-- demand 3. What is to be known of the two files is computed. Assumes nothing.
use mathlib.Core.Path.{◌≡◌, refl, sym, subst}
use mathlib.Core.Bool.{not}
use mathlib.Core.Logic.{inl, inr}
use mathlib.Core.List.Memᴰ
use mathlib.Core.List.{List, [], ◌∷◌, ◌++◌}
use Prim.Native.Nat.{ℕ, ◌≤◌, ◌<◌}
use native.Mathlib.Omega.{arith}
use lib.Dec.{T, leb, ltb, leb→le, ltb→lt}
use lib.ListN.{length, drop, get_or}
use Rattle.sets.specs.Sets.{Mem, here, there, filter, any, member}
use Rattle.sets.proofs.Sets.{filter_iff, member_iff}
use Rattle.sets.proofs.Filter.{all_iff}
use Rattle.files.specs.Field.{site_of, target_of}
use Rattle.files.specs.Groups.{our_groups}
use Rattle.files.specs.Part.{is_edge, nodes, roots, doors, part_check}
use Rattle.files.proofs.Blocks.{edge_of, doors_nodes}
use Rattle.expressions.specs.Labels.{expr_of}
use Rattle.demands.specs.Plant.{Plant, OneRoot, Closed, HasEdge, AcceptedPart, TrueCut, body}
use Rattle.demands.specs.PlantOf.{plant_of_parts}
use Rattle.demands.specs.Grouped.{ours}
use Rattle.demands.specs.Demand.{AcceptedPath, Asked, NoneWalked}
use Rattle.demands.proofs.PlantOf.{parts_cut}
use Rattle.demands.proofs.LeftOut.{closed_unwalked}
use Rattle.demands.proofs.Cutter.{some_part, few_parts}
use Rattle.witnesses.proofs.Asked.{all_words, words_by_test}

-- a part with nodes from `low` on and below `high`, its roots and its doors, whose links all end at doors of the other site
pub record Site (f : List ℕ) (site low high : ℕ) (rooted offered beyond : List ℕ) : Type 0 where
  pub word : T (all_words f)
  pub short : T (leb (length f) 4096)
  pub read : part_check f ≡ 0
  pub site_is : site_of (get_or f 0 0) ≡ site
  pub above : T (not (any (λ x. not (leb low x)) (nodes (body f))))
  pub below : T (not (any (λ x. not (ltb x high)) (nodes (body f))))
  pub roots_are : roots (body f) ≡ rooted
  pub doors_are : doors (body f) ≡ offered
  pub crosses : T (not (any (λ w. not (member (target_of w) beyond)) (filter is_edge (body f))))

module _ {f : List ℕ} {site low high : ℕ} {rooted offered beyond : List ℕ} (s : Site f site low high rooted offered beyond) where
  pub site_accepted : AcceptedPart f
  site_accepted = (words_by_test f s.word, leb→le (length f) 4096 s.short, s.read)

  within : (x : ℕ) → Mem x (nodes (body f)) → (low ≤ x) × (x < high)
  within x m = (
    leb→le low x ((all_iff (λ x. leb low x) (nodes (body f))).0 s.above x m),
    ltb→lt x high ((all_iff (λ x. ltb x high) (nodes (body f))).0 s.below x m),
  )

  ends_beyond : (x a y : ℕ) → HasEdge f x a y → Mem y beyond
  ends_beyond x a y (w, m, i, t) =
      let (k, j, n) = edge_of (body f) x w m in
      let d = (all_iff (λ w. member (target_of w) beyond) (filter is_edge (body f))).0 s.crosses w ((filter_iff is_edge w (body f)).1 (k, j)) in
      rw t at ((member_iff (target_of w) beyond).0 d)

module _ (left right : List ℕ) {mid high root : ℕ} {rooted rooted' offered offered' : List ℕ}
    (l : Site left 0 0 mid rooted offered offered') (r : Site right 1 mid high rooted' offered' offered) (one : rooted ++ rooted' ≡ root ∷ []) where
  abbrev pub sites : List (List ℕ)
  sites = left ∷ right ∷ []

  -- what holds of both holds of each
  pub both : (P : List ℕ → Type 0) → P left → P right → (f : List ℕ) → Mem f sites → P f
  both P a b f (here e) = subst P (sym e) a
  both P a b f (there (here e)) = subst P (sym e) b
  both P a b f (there (there x8)) = elim x8 [ ]

  pub apart : (x : ℕ) → Mem x (nodes (body left)) → Mem x (nodes (body right)) → ⊥
  apart x m k = omega (arith, within l x m, within r x k)

  left_to : (x a y : ℕ) → HasEdge left x a y → Mem y (doors (body right))
  left_to x a y e = rw r.doors_are (ends_beyond l x a y e)

  right_to : (x a y : ℕ) → HasEdge right x a y → Mem y (doors (body left))
  right_to x a y e = rw l.doors_are (ends_beyond r x a y e)

  abbrev pub plant : Plant
  plant = plant_of_parts sites

  pub two_cut : TrueCut plant sites
  two_cut = parts_cut sites
      (both AcceptedPart (site_accepted l) (site_accepted r))
      (rw (l.site_is, r.site_is) (λ m. omega (arith, Memᴰ.eq_of_singleton m), (λ m. elim m [ ], tt)))
      (λ x f g m k. both (λ f. Mem x (nodes (body f)) → Mem x (nodes (body g)) → f ≡ g)
      (both (λ g. Mem x (nodes (body left)) → Mem x (nodes (body g)) → left ≡ g) (λ i j. refl) (λ i j. absurd (apart x i j)) g k)
      (both (λ g. Mem x (nodes (body right)) → Mem x (nodes (body g)) → right ≡ g) (λ i j. absurd (apart x j i)) (λ i j. refl) g k) f m)
      (λ x a y f g m k. both (λ f. (f ≡ g → ⊥) → HasEdge f x a y → Mem y (nodes (body g)) → Mem y (doors (body g)))
      (both (λ g. (left ≡ g → ⊥) → HasEdge left x a y → Mem y (nodes (body g)) → Mem y (doors (body g)))
      (λ n e i. absurd (n refl)) (λ n e i. left_to x a y e) g k)
      (both (λ g. (right ≡ g → ⊥) → HasEdge right x a y → Mem y (nodes (body g)) → Mem y (doors (body g)))
      (λ n e i. right_to x a y e) (λ n e i. absurd (n refl)) g k) f m)

  has_root : Mem root (rooted ++ rooted')
  has_root = rw one (here refl)

  pub only_root : (x : ℕ) → plant.Root x → x ≡ root
  only_root x (f, m, k) = Memᴰ.eq_of_singleton (rw one at (both (λ f. Mem x (roots (body f)) → Mem x (rooted ++ rooted'))
      (λ k. Memᴰ.append_left rooted' (rw l.roots_are at k)) (λ k. Memᴰ.append_right rooted (rw r.roots_are at k)) f m k))

  pub two_root : OneRoot plant
  two_root = record {
    root = root;
    is = elim (Memᴰ.append_cases rooted has_root) [
      | inl m ↦ (left, here refl, rw l.roots_are m)
      | inr m ↦ (right, there (here refl), rw r.roots_are m)
    ];
    only = only_root;
  }

  pub two_closed : Closed plant
  two_closed x a y (f, m, e) = both (λ f. HasEdge f x a y → plant.Node y)
      (λ e. (right, there (here refl), doors_nodes (body right) y (left_to x a y e)))
      (λ e. (left, here refl, doors_nodes (body left) y (right_to x a y e))) f m e

  -- the givens, for an accepted path; the plant has no link that ends nowhere, and the parts' links are its own
  abbrev pub two : (path : List ℕ) → AcceptedPath path → Asked
  two path ok = record {
    plant = plant;
    one_root = two_root;
    parts = sites;
    some_part = some_part two_root two_cut;
    few_parts = few_parts two_cut;
    cut = two_cut;
    groups = ours;
    groups_accepted = tt;
    path = path;
    path_accepted = ok;
  }

  pub two_none : (path : List ℕ) (ok : AcceptedPath path) → NoneWalked (two path ok)
  two_none path ok = closed_unwalked our_groups plant sites (expr_of (drop 1 path)) (λ f m x a y e. (f, m, e)) two_closed
