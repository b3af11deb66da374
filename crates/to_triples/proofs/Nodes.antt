-- What the words of an accepted whole say of its nodes: the edges of a node stand right behind its word, and the root's word is the one that is
-- marked. Assumes nothing.
use mathlib.Core.Path.{◌≡◌, refl, sym, ap, ◌∙◌}
use mathlib.Core.Logic.{⊎_elim}
use mathlib.Core.Bool.{true, false}
use mathlib.Core.List.{List, [], ◌∷◌, ◌++◌, map}
use Prim.Native.Nat.{ℕ, zero, suc, ◌<◌}
use native.Mathlib.Omega.{arith}
use borrow.Author.Tests.{ne_eqb}
use lib.Dec.{eqb, ltb}
use lib.ListN.{length, get_or, take, drop, get_or-eq_default}
use lib.Seq.{split_at, get_or-drop}
use Rattle.sets.specs.Sets.{Mem, here, Distinct, filter}
use Rattle.sets.proofs.Cases.{lt_or_le, clash}
use Rattle.sets.proofs.Filter.{filter_append, map_append}
use Rattle.sets.proofs.Lengths.{ascending_distinct}
use Rattle.sets.proofs.Distinct.{distinct_parts}
use Rattle.files.specs.Field.{kind_of, node_of, root_of}
use Rattle.files.specs.Part.{is_node, is_edge, is_root, nodes, front, edges, whole_check}
use Rattle.files.proofs.Parts.{part_read, nodes_ascending, whole_part}
use Rattle.kinds.specs.Seek.{FirstThat}
use Rattle.kinds.proofs.Roots.{root_marked, marked_root}
use Rattle.triples.specs.Triple.{root_in}
use Rattle.triples.proofs.Plain.{mark_alone, root_only}
use Rattle.triples.proofs.Steps.{edges_at, front_some}

-- the first word behind, where there is one, says whether edges stand there
front_first : (ws : List ℕ) → ltb 0 (length (front ws)) ≡ is_edge (get_or ws 0 0)
front_first [] = refl
front_first (w ∷ ws) = front_some w ws

-- the node at a place stands nowhere before it
node_first : (ws : List ℕ) (j : ℕ) → Distinct (nodes ws) → j < length ws → is_node (get_or ws j 0) ≡ true → Mem (node_of (get_or ws j 0)) (nodes (take j ws)) → ⊥
node_first ws j d l n m =
    let w = get_or ws j 0 in
    let rest = drop (suc j) ws in
    let e : nodes ws ≡ nodes (take j ws) ++ nodes (w ∷ rest) =
    ap nodes (split_at ws j 0 l) ∙ ap (map node_of) (filter_append is_node (take j ws) (w ∷ rest)) ∙ map_append node_of (filter is_node (take j ws)) (filter is_node (w ∷ rest)) in
    let k : Mem (node_of w) (nodes (w ∷ rest)) = rw n (here refl) in
    (distinct_parts (nodes (take j ws)) (nodes (w ∷ rest)) (rw e at d)).1 (node_of w) m k

module _ (f : List ℕ) (c : whole_check f ≡ 0) where
  abbrev ws : List ℕ
  ws = drop 1 f

  distinct : Distinct (nodes ws)
  distinct = ascending_distinct (nodes ws) (nodes_ascending f (whole_part f c))

  -- the header is no node and no edge
  pub header_node : is_node (get_or f 0 0) ≡ false
  header_node = ne_eqb (kind_of (get_or f 0 0)) 2 (λ q. omega (arith, (part_read f (whole_part f c)).kind))

  pub header_edge : is_edge (get_or f 0 0) ≡ false
  header_edge = ne_eqb (kind_of (get_or f 0 0)) 3 (λ q. omega (arith, (part_read f (whole_part f c)).kind))

  -- a node's word stands behind it
  pub node_place : (i : ℕ) → is_node (get_or f i 0) ≡ true → (j : ℕ) × (i ≡ suc j) × (j < length ws) × (get_or f i 0 ≡ get_or ws j 0)
  node_place zero n = absurd (clash n header_node)
  node_place (suc j) n = (j, refl, ⊎_elim (λ h. h) (λ h. absurd (clash n (ap is_node (same ∙ get_or-eq_default ws 0 h)))) (lt_or_le j (length ws)), same)
    where
      same : get_or f (suc j) 0 ≡ get_or ws j 0
      same = sym (get_or-drop 1 f j 0 ∙ ap (λ k. get_or f k 0) (omega arith))

  -- a node has edges exactly if the word behind its own is one
  pub edges_behind : (j : ℕ) → j < length ws → is_node (get_or ws j 0) ≡ true → ltb 0 (length (edges ws (node_of (get_or ws j 0)))) ≡ is_edge (get_or ws (suc j) 0)
  edges_behind j l n =
      let w = get_or ws j 0 in
      let e = ap (λ vs. edges vs (node_of w)) (split_at ws j 0 l) ∙ edges_at (take j ws) w (drop (suc j) ws) n (node_first ws j distinct l n) in
      rw e (front_first (drop (suc j) ws) ∙ ap is_edge (get_or-drop (suc j) ws 0 0 ∙ ap (λ k. get_or ws k 0) (omega arith)))

  -- a node's word is marked exactly if it is the root's
  pub root_told : (w : ℕ) → Mem w ws → is_node w ≡ true → root_of w ≡ eqb (node_of w) (root_in ws)
  root_told = mark_alone f (whole_part f c) root_of (root_in ws) (root_only f c)

  -- the first marked word is the root's
  pub root_found : (i : ℕ) → FirstThat is_root f i → node_of (get_or f i 0) ≡ root_in ws
  root_found i g = sym (ap (λ xs. get_or xs 0 0) (marked_root f c i (root_marked f c i g)))
