-- 19: what the code finds word by word, with the targets as a set, is what the nodes say. Assumes nothing.
use mathlib.Core.Path.{◌≡◌, refl, ap, ap₂, ◌∙◌}
use mathlib.Core.Logic.{inl, inr}
use mathlib.Core.Bool.{Bool, true, false, not, ◌&&◌, ◌||◌}
use mathlib.Core.List.{List, [], ◌∷◌, map}
use Prim.Native.Nat.{ℕ, suc, ◌+◌, ◌<◌}
use native.Mathlib.Omega.{arith}
use lib.Dec.{eqb, ltb}
use lib.ListN.{length, get_or, drop}
use lib.Seq.{get_or-drop}
use Rattle.sets.specs.Sets.{any, filter, member, span}
use Rattle.sets.specs.NodeSet.{has_node}
use Rattle.sets.proofs.Cases.{or_swap}
use Rattle.sets.proofs.NodeSets.{nodes_none}
use Rattle.sets.proofs.Tests.{either}
use Rattle.sets.proofs.Lengths.{at_mem}
use Rattle.files.specs.Field.{node_of, root_of, stopped_of, target_of}
use Rattle.files.specs.Refuse.{◌then◌, ◌unless◌}
use Rattle.files.specs.Outcome.{zeros}
use Rattle.files.specs.Part.{is_node, is_edge, is_stopped, nodes, edges, whole_check}
use Rattle.triples.specs.Triple.{root_in, is_linked, say_check}
use Rattle.to_triples.specs.Say.{unsaid_at}
use Rattle.to_triples.proofs.Nodes.{header_node, header_edge, node_place, edges_behind, root_told}

-- One word: e is whether the word v behind it is an edge, h whether its node is among the targets
pub unsaid_told : (targets : ℕ → Bool) (ws : List ℕ) (i : ℕ) {w v x : ℕ} {e h n s r : Bool} → w ≡ get_or ws i 0 → v ≡ get_or ws (i + 1) 0 → e ≡ is_edge v → x ≡ node_of w
    → h ≡ targets x → n ≡ is_node w → s ≡ stopped_of w → r ≡ root_of w → (n && (s || not (r || (e || h)))) ≡ unsaid_at targets ws i
unfolding unsaid_at
unsaid_told targets ws i w v e x h n s r = rw (n, s, r, e, h, x, v, w)

-- a test of the place of each word that is one of the word
any_span : (p g : ℕ → Bool) (k : ℕ) (ws : List ℕ) → ((j : ℕ) → j < length ws → p (k + j) ≡ g (get_or ws j 0)) → any p (span k (length ws)) ≡ any g ws
any_span p g k [] h = refl
any_span p g k (w ∷ ws) h = ap₂ ◌||◌ (ap p (omega arith) ∙ h 0 (omega arith)) (any_span p g (suc k) ws (λ j l. ap p (omega arith) ∙ h (suc j) (omega arith)))

-- a test of node words that is one of the word or one of its node
any_either : (s h : ℕ → Bool) (ws : List ℕ) → any (λ w. is_node w && (s w || h (node_of w))) ws ≡ (any (λ w. is_node w && s w) ws || any h (nodes ws))
any_either s h [] = refl
any_either s h (w ∷ ws) = elim (either (is_node w)) [
  | inl n ↦ rw (n, any_either s h ws) (or_swap (s w) (h (node_of w)) (any (λ w. is_node w && s w) ws) (any h (nodes ws)))
  | inr n ↦ rw (n, any_either s h ws)
]

-- a test that the first word fails
any_behind : (p : ℕ → Bool) (f : List ℕ) → p (get_or f 0 0) ≡ false → any p f ≡ any p (drop 1 f)
any_behind p [] h = refl
any_behind p (w ∷ f) h = rw h

filter_behind : (p : ℕ → Bool) (f : List ℕ) → p (get_or f 0 0) ≡ false → filter p f ≡ filter p (drop 1 f)
filter_behind p [] h = refl
filter_behind p (w ∷ f) h = rw h

-- two checks with one number
one_number : (a b : Bool) → (19 unless not (a || b)) ≡ (19 unless not a then 19 unless not b)
one_number true b = refl
one_number false b = refl

module _ (f : List ℕ) (c : whole_check f ≡ 0) where
  abbrev ws : List ℕ
  ws = drop 1 f

  abbrev unlinked : ℕ → Bool
  unlinked x = not (eqb x (root_in ws) || is_linked ws x)

  -- the word is of a node that triples can't say
  abbrev unsaid : ℕ → Bool
  unsaid w = is_node w && (stopped_of w || unlinked (node_of w))

  module _ (targets : ℕ → Bool) (are : (x : ℕ) → targets x ≡ member x (map target_of (filter is_edge ws))) where
    -- of the word at a place
    unsaid_at_lem : (i : ℕ) → unsaid_at targets f i ≡ unsaid (get_or f i 0)
    unfolding unsaid_at
    unsaid_at_lem i = elim (either (is_node (get_or f i 0))) [
      | inl n ↦
          let (j, p, l, e) = node_place f c i n in
          let w = get_or f i 0 in
          let root : root_of w ≡ eqb (node_of w) (root_in ws) = root_told f c w (rw e (at_mem 0 ws j l)) n in
          let next : get_or ws (suc j) 0 ≡ get_or f (i + 1) 0 = get_or-drop 1 f (suc j) 0 ∙ ap (λ k. get_or f k 0) (omega arith) in
          let some : ltb 0 (length (edges ws (node_of w))) ≡ is_edge (get_or f (i + 1) 0) = rw (e, ← next) (edges_behind f c j l (rw e at n)) in
          rw (n, root, some, are (node_of w))
      | inr n ↦ rw n
    ]

    any_unsaid : any (unsaid_at targets f) (span 0 (length f)) ≡ (any is_stopped ws || any unlinked (nodes ws))
    any_unsaid =
        any_span (unsaid_at targets f) unsaid 0 f (λ j l. ap (unsaid_at targets f) (omega arith) ∙ unsaid_at_lem j)
        ∙ any_behind unsaid f (rw (header_node f c))
        ∙ any_either stopped_of unlinked ws

-- d is a cleared buffer, a has the targets besides
pub said_checked : (f a : List ℕ) {d : List ℕ} {b : Bool} {r : ℕ} (n : ℕ) → whole_check f ≡ 0 → d ≡ zeros n
    → ((x : ℕ) → has_node a 0 x ≡ (has_node d 0 x || member x (map node_of (filter is_edge f)))) → b ≡ any (unsaid_at (has_node a 0) f) (span 0 (length f))
    → r ≡ (19 unless not b) → r ≡ say_check f
said_checked f a n c z h e q =
    let all = e ∙ any_unsaid f c (has_node a 0) (λ x. h x ∙ rw (nodes_none n 0 x z, filter_behind is_edge f (header_edge f c))) in
    q ∙ ap (λ b. 19 unless not b) all ∙ one_number (any is_stopped (drop 1 f)) (any (unlinked f c) (nodes (drop 1 f)))
