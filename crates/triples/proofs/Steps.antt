-- For 19, at a node word among the words: the node's edges are the edge words right behind it, so it has some exactly if the next word is one.
-- Assumes nothing.
use mathlib.Core.Path.{◌≡◌, refl, sym}
use mathlib.Core.Logic.{inl, inr}
use mathlib.Core.Bool.{true}
use mathlib.Core.List.{List, [], ◌∷◌, ◌++◌}
use Prim.Native.Nat.{ℕ, suc}
use native.Mathlib.Omega.{arith}
use lib.Dec.{ltb}
use lib.ListN.{length}
use borrow.Author.Tests.{eq-eqb, ne_eqb, lt-ltb}
use Rattle.sets.specs.Sets.{Mem, here, there}
use Rattle.sets.proofs.Tests.{either}
use Rattle.files.specs.Field.{node_of}
use Rattle.files.specs.Part.{is_node, is_edge, nodes, edges, front}

pub edges_at : (before : List ℕ) (w : ℕ) (behind : List ℕ) → is_node w ≡ true → (Mem (node_of w) (nodes before) → ⊥)
    → edges (before ++ w ∷ behind) (node_of w) ≡ front behind
edges_at [] w behind n h = rw (n, eq-eqb (node_of w) (node_of w) refl)
edges_at (v ∷ before) w behind n h = elim (either (is_node v)) [
  | inl e ↦
      let k = rw e at h in
      rw (e, ne_eqb (node_of v) (node_of w) (λ q. k (here (sym q)))) (edges_at before w behind n (λ m. k (there m)))
  | inr e ↦ rw e (edges_at before w behind n (rw e at h))
]

pub front_some : (w : ℕ) (ws : List ℕ) → ltb 0 (length (front (w ∷ ws))) ≡ is_edge w
front_some w ws = elim (either (is_edge w)) [ inl e ↦ rw e (lt-ltb 0 (suc (length (front ws))) (omega arith)) | inr e ↦ rw e ]
