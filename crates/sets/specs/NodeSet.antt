-- Inner. A set of nodes in bytes: node x belongs where bit x % 16 of number x / 16 of the table at `base` is set.
use Rattle.std.specs.Prelude.{◌≡◌, Bool, ◌||◌, List, ◌⊎◌, ℕ, ◌+◌, ◌/◌, ◌%◌, ◌≤◌, ◌<◌, eqb, length, get_or}
use Rattle.sets.specs.States.{has_state}
use Rattle.sets.specs.Table.{half}

-- 65,536 nodes, a bit each
abbrev pub node_set_bytes : ℕ
node_set_bytes = 8192

-- the numbers of sixteen bits that these are
abbrev pub node_cells : ℕ
node_cells = 4096

unfoldable pub has_node : List ℕ → ℕ → ℕ → Bool
has_node w base x = has_state (half w base (x / 16)) (x % 16)

-- w' is w with x added to the set at base, and its other bytes are w's
pub record Added (base x : ℕ) (w w' : List ℕ) : Type 0 where
  pub has : (y : ℕ) → has_node w' base y ≡ (has_node w base y || eqb y x)
  pub rest : (k : ℕ) → (k < base) ⊎ (base + node_set_bytes ≤ k) → get_or w' k 0 ≡ get_or w k 0
  pub same : length w' ≡ length w
