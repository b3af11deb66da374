-- Believed. Edges from draws. Document 02, request 2.
use Rattle.std.specs.Prelude.{ℕ, ◌+◌, ◌*◌, ◌%◌, List, map}
use Rattle.sets.specs.Sets.{span, set_of}
use Rattle.files.specs.Field.{edge_word}

-- The edges of a file are counted node by node, from 0 on. Edge j takes one draw of d for the label, remainder by 4,096, and then one for the target,
-- remainder by the node count.
abbrev pub edge_drawn : (ℕ → ℕ) → ℕ → ℕ → ℕ
edge_drawn d nodes j = edge_word (d (2 * j) % 4096) (d (2 * j + 1) % nodes)

-- k edges of a node, from edge j on: equal ones become one and the rest are put in order
abbrev pub edges_drawn : (ℕ → ℕ) → ℕ → ℕ → ℕ → List ℕ
edges_drawn d nodes j k = set_of (map (edge_drawn d nodes) (span j k))
