-- The words of an accepted part are its node words, each with its edges behind it. So a whole with site 0, only its root as door and no node
-- stopped is composed of its nodes and edges. Assumes nothing.
use mathlib.Core.Path.{◌≡◌, refl, sym, ◌∙◌, ap, ap₂, subst}
use mathlib.Core.Logic.{◌↔◌, inl, inr}
use mathlib.Core.Bool.{Bool, true, false, ◌&&◌}
use mathlib.Core.List.Memᴰ
use mathlib.Core.List.{List, [], ◌∷◌, ◌++◌, map, flatten, map-map}
use Prim.Native.Nat.{ℕ, ◌^◌, ◌≤◌, ◌<◌}
use native.Mathlib.Omega.{arith}
use lib.Dec.{T, eqb}
use lib.ListN.{length, get_or, drop, length-map}
use borrow.Author.Tests.{eq-eqb, ne_eqb}
use Rattle.sets.specs.Sets.{Mem, here, there, Distinct, filter}
use Rattle.sets.proofs.Tests.{either, passed, is_true, same_test, and_iff, eq_iff, both}
use Rattle.sets.proofs.Sets.{later, filter_iff, flatten_map_iff}
use Rattle.sets.proofs.Filter.{map_iff, map_filter_iff, map_agree, map_fixed, map_flatten}
use Rattle.sets.proofs.Lengths.{mem_drop, ascending_distinct}
use Rattle.sets.proofs.Distinct.{distinct_map}
use Rattle.files.specs.Field.{kind_of, node_of, root_of}
use Rattle.files.specs.Limits.{part_words}
use Rattle.files.specs.Part.{is_node, is_edge, start, next, word_check, scan, nodes, nodes_with, roots, front, edges, part_check, whole_check}
use Rattle.files.proofs.Checks.{then_iff}
use Rattle.files.proofs.Ordered.{scan_checked}
use Rattle.files.proofs.Blocks.{node_small, roots_nodes, edge_of}
use Rattle.files.proofs.Parts.{node_not_edge, edge_not_node, edge_iff, part_read, nodes_ascending, edges_ascending, whole_part, whole_root, whole_target}
use Rattle.files.proofs.Compose.{composed}
use Rattle.triples.specs.Triple.{root_in, plain_word, plain}
use Rattle.triples.proofs.Made.{marked, made_of, Composable, Made, made}

-- the edge words in front, and then each node word with its edges
relaid : (ws : List ℕ) → Distinct (nodes ws) → ((w : ℕ) → Mem w ws → is_node w ≡ false → is_edge w ≡ true)
    → front ws ++ flatten (map (λ w. w ∷ edges ws (node_of w)) (filter is_node ws)) ≡ ws
unfolding flatten
relaid [] d e = refl
relaid (w ∷ ws) d e = elim (either (is_node w)) [
  | inl n ↦
      let (other, d) = rw n at d in
      rw (n, node_not_edge w n, eq-eqb (node_of w) (node_of w) refl) (ap (w ∷◌) (
      ap (λ vs. front ws ++ flatten vs) (map_agree _ (λ v. v ∷ edges ws (node_of v)) (filter is_node ws) (λ v m.
      rw (ne_eqb (node_of w) (node_of v) (λ q. other ((map_iff node_of (node_of w) (filter is_node ws)).1 (v, m, sym q))))))
      ∙ relaid ws d (λ v m. e v (there m))))
  | inr n ↦ rw (n, e w (here refl) n) (ap (w ∷◌) (relaid ws (rw n at d) (λ v m. e v (there m))))
]

module _ (f : List ℕ) (c : part_check f ≡ 0) where
  abbrev ws : List ℕ
  ws = drop 1 f

  distinct : Distinct (nodes ws)
  distinct = ascending_distinct (nodes ws) (nodes_ascending f c)

  edge_else : (w : ℕ) → Mem w ws → is_node w ≡ false → is_edge w ≡ true
  edge_else w m n = let (st, k) = scan_checked word_check next (λ st. 0) start ws (part_read f c).words w m in ((edge_iff st w n).0 k).edge

  laid : flatten (map (λ w. w ∷ edges ws (node_of w)) (filter is_node ws)) ≡ ws
  laid = ap (◌++ flatten (map (λ w. w ∷ edges ws (node_of w)) (filter is_node ws))) (sym (none ws (part_read f c).words)) ∙ relaid ws distinct edge_else
    where
      none : (ws : List ℕ) → scan start ws ≡ 0 → front ws ≡ []
      none [] s = refl
      none (w ∷ ws) s = elim (either (is_node w)) [
        | inl n ↦ rw (node_not_edge w n)
        | inr n ↦ absurd (omega (arith, ((edge_iff start w n).0 ((then_iff (word_check start w) _).0 s).0).behind))
      ]

  -- an edge word is an edge of a node
  pub edge_owner : (w : ℕ) → Mem w ws → is_edge w ≡ true → (x : ℕ) × Mem w (edges ws x)
  edge_owner w m e =
      let (v, i, k) = (flatten_map_iff (λ w. w ∷ edges ws (node_of w)) w (filter is_node ws)).0 (rw laid m) in
      (node_of v, later k (λ q. subst T (sym (ap is_node q) ∙ edge_not_node w e) ((filter_iff is_node v ws).0 i).1))

  -- words that change only where they are of nodes, by the node's number, are composed so
  pub recomposed : (g word : ℕ → ℕ) → ((w : ℕ) → Mem w ws → is_node w ≡ true → g w ≡ word (node_of w)) → ((w : ℕ) → is_node w ≡ false → g w ≡ w)
      → map g ws ≡ composed word (edges ws) (nodes ws)
  recomposed g word n e =
      ap (map g) (sym laid)
      ∙ map_flatten g (map (λ w. w ∷ edges ws (node_of w)) (filter is_node ws))
      ∙ ap flatten (
      map-map (map g) (λ w. w ∷ edges ws (node_of w)) (filter is_node ws)
      ∙ map_agree _ (λ w. word (node_of w) ∷ edges ws (node_of w)) (filter is_node ws) (λ w m.
      let (i, t) = (filter_iff is_node w ws).0 m in
      ap₂ (λ (v : ℕ) (vs : List ℕ). v ∷ vs) (n w i (is_true (is_node w) t))
      (map_fixed g (edges ws (node_of w)) (λ v k. e v (edge_not_node v (is_true (is_edge v) (edge_of ws (node_of w) v k).1)))))
      ∙ sym (map-map (λ x. word x ∷ edges ws x) node_of (filter is_node ws)))

  -- where r alone is marked, a node's word is marked exactly if the node is r
  pub mark_alone : (mark : ℕ → Bool) (r : ℕ) → nodes_with mark ws ≡ r ∷ [] → (w : ℕ) → Mem w ws → is_node w ≡ true → mark w ≡ eqb (node_of w) r
  mark_alone mark r only w m n = same_test
      (λ t. (eq_iff (node_of w) r).1 (Memᴰ.eq_of_singleton (subst (Mem (node_of w)) only (i.1 (w, m, both (is_node w) (mark w) (passed n) t, refl)))))
      (λ t.
      let (v, k, u, q) = i.0 (subst (Mem (node_of w)) (sym only) (here ((eq_iff (node_of w) r).0 t))) in
      let (j, u) = (and_iff (is_node v) (mark v)).0 u in
      let same : v ≡ w = distinct_map node_of distinct ((filter_iff is_node v ws).1 (k, j)) ((filter_iff is_node w ws).1 (m, passed n)) q in
      subst (λ w. T (mark w)) same u)
    where
      i : Mem (node_of w) (nodes_with mark ws) ↔ ((v : ℕ) × Mem v ws × T (is_node v && mark v) × (node_of v ≡ node_of w))
      i = map_filter_iff node_of (λ w. is_node w && mark w) (node_of w) ws

-- where none is marked, no node's word is
pub mark_none : (mark : ℕ → Bool) (ws : List ℕ) → nodes_with mark ws ≡ [] → (w : ℕ) → Mem w ws → (is_node w && mark w) ≡ false
mark_none mark ws none w m = elim (either (is_node w && mark w)) [
  | inl t ↦ elim (subst (Mem (node_of w)) none ((map_filter_iff node_of (λ w. is_node w && mark w) (node_of w) ws).1 (w, m, passed t, refl))) [ ]
  | inr t ↦ t
]

-- Accepted wholes

module _ (f : List ℕ) (c : whole_check f ≡ 0) where
  pub root_only : roots (drop 1 f) ≡ root_in (drop 1 f) ∷ []
  root_only = let (r, e) = whole_root f c in e ∙ ap (◌∷ []) (sym (ap (λ xs. get_or xs 0 0) e))

  pub root_node : Mem (root_in (drop 1 f)) (nodes (drop 1 f))
  root_node = roots_nodes (drop 1 f) (root_in (drop 1 f)) (subst (Mem (root_in (drop 1 f))) (sym root_only) (here refl))

  pub plain_composed : map plain_word (drop 1 f) ≡ made_of (root_in (drop 1 f)) (edges (drop 1 f)) (nodes (drop 1 f))
  plain_composed = recomposed f (whole_part f c) plain_word (marked (root_in (drop 1 f)))
      (λ w m n. rw (n, mark_alone f (whole_part f c) root_of (root_in (drop 1 f)) root_only w m n)) (λ w n. rw n)

  pub plain_length : length (plain f) ≡ length f
  plain_length = omega (arith, length-map (drop 1 f) plain_word, (part_read f (whole_part f c)).long)

  module _ (word : (w : ℕ) → Mem w f → w < 2 ^ 32) where
    pub whole_composable : Composable (root_in (drop 1 f)) (edges (drop 1 f)) (nodes (drop 1 f))
    whole_composable = record {
      ascending = nodes_ascending f (whole_part f c);
      small = node_small (drop 1 f);
      rooted = root_node;
      rises = edges_ascending f (whole_part f c);
      edges = λ x w m. let (i, t, n) = edge_of (drop 1 f) x w m in record { kind_is = (eq_iff (kind_of w) 3).0 t; word = word w (mem_drop f i) };
      targets = whole_target f c;
    }

    -- the whole with site 0 and only the root as door
    pub plain_made : length f ≤ part_words → Made (root_in (drop 1 f)) (edges (drop 1 f)) (nodes (drop 1 f)) (plain f)
    plain_made l = rw plain_composed (made whole_composable (omega (arith, l, plain_length, ap length plain_composed)))
