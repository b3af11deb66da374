-- The edges of a node by the position of its word, in an accepted part. Assumes nothing.
use mathlib.Core.Path.{◌≡◌, refl, ◌∙◌}
use mathlib.Core.Bool.{true, false}
use mathlib.Core.List.{List, [], ◌∷◌}
use Prim.Native.Nat.{ℕ, suc}
use lib.ListN.{drop}
use Rattle.files.specs.Part.{front, edges, part_check}
use Rattle.slots.specs.Slots.{node_at, number}
use Rattle.slots.proofs.Places.{header_node, rising, edges_at}

-- a first word that is no node word adds no edges
edges_behind : (ws : List ℕ) → node_at ws 0 ≡ false → (x : ℕ) → edges (drop 1 ws) x ≡ edges ws x
unfolding node_at
edges_behind [] n x = refl
edges_behind (w ∷ ws) n x = rw n

module _ (ws : List ℕ) (c : part_check ws ≡ 0) (i : ℕ) (n : node_at ws i ≡ true) where
  -- its edges are the edge words right behind its word
  pub edges_here : edges (drop 1 ws) (number ws i) ≡ front (drop (suc i) ws)
  edges_here = edges_behind ws (header_node ws c) (number ws i) ∙ edges_at ws i (rising ws c) n
