-- Believed. The load bench: a whole file from draws, a node count and an edge count, and the call that writes it from a lent state. Document 02,
-- request 2.
use Rattle.std.specs.Prelude.{ℕ, ◌*◌, false, ◌&&◌, eqb, leb}
use mathlib.Core.List.{List, ◌∷◌, map, flatten}
use Rattle.sets.specs.Sets.{span}
use Rattle.files.specs.Field.{file, node_word}
use Rattle.files.specs.Refuse.{◌then◌, ◌unless◌, room_check}
use Rattle.files.specs.Outcome.{Outcome, outcome}
use Rattle.files.specs.Limits.{part_words}
use Rattle.draws.specs.Draws.{after, drawn}
use Rattle.edge_draws.specs.Edges.{edges_drawn}

-- a node's word: node 0 is the root and the only door
abbrev pub node_at : ℕ → ℕ
node_at x = node_word x (eqb x 0) (eqb x 0) false

-- node x with its edges: `edges` of them are drawn, from edge x × edges on
abbrev pub node_drawn : (ℕ → ℕ) → ℕ → ℕ → ℕ → List ℕ
node_drawn d nodes edges x = node_at x ∷ edges_drawn d nodes (x * edges) edges

-- the file: site 0, nodes from 0 upward
unfoldable pub generated : (ℕ → ℕ) → ℕ → ℕ → List ℕ
generated d nodes edges = file 1 0 0 (flatten (map (node_drawn d nodes edges) (span 0 nodes)))

-- the state after the last draw, two for each edge
abbrev pub spent : ℕ → ℕ → ℕ → ℕ
spent s nodes edges = after (2 * (nodes * edges)) s

-- 11: a node count of 1 to 256 and an edge count of 1 to 4
abbrev pub bounds_check : ℕ → ℕ → ℕ
bounds_check nodes edges = 11 unless (leb 1 nodes && leb nodes 256 && leb 1 edges && leb edges 4)

-- what the call answers from the state s, with an output of `out` and a working buffer of `work` bytes: 1, then 11
unfoldable pub generate_call : ℕ → ℕ → ℕ → ℕ → ℕ → Outcome
generate_call out work s nodes edges = outcome (room_check part_words out work then bounds_check nodes edges) part_words (generated (drawn s) nodes edges)
