-- Inner. A node by its own draws.
use Rattle.std.specs.Prelude.{ℕ, List, ◌∷◌}
use Rattle.edge_draws.specs.Edges.{edges_drawn}
use Rattle.generator.specs.Generate.{node_at}

-- node x, its edges the first of the draws d
abbrev pub node_from : (ℕ → ℕ) → ℕ → ℕ → ℕ → List ℕ
node_from d nodes edges x = node_at x ∷ edges_drawn d nodes 0 edges
