-- Inner. Calls by position in a call list, and their nodes by position in a part, the headers' positions being 0.
use Rattle.std.specs.Prelude.{◌≡◌, Bool, true, cond, not, ◌&&◌, List, ◌∷◌, ℕ, ◌≤◌, ◌<◌, eqb, length, get_or, drop}
use Rattle.files.specs.Field.{door_of, pair_of, pair_node}
use Rattle.slots.specs.Slots.{node_at, number, Kept}
use Rattle.part_search.specs.Search.{Begun, StepClosed, Marks}
use Rattle.site_calls.specs.Against.{called_in}

-- the pair of the call at k
unfoldable pub call_at : List ℕ → ℕ → ℕ
call_at cs k = pair_of (get_or cs k 0)

-- at i stands the node word of x
unfoldable pub holds_at : List ℕ → ℕ → ℕ → Bool
holds_at ws i x = node_at ws i && eqb (number ws i) x

-- at i stands the node word of x, and x is no door
unfoldable pub shut_at : List ℕ → ℕ → ℕ → Bool
shut_at ws i x = holds_at ws i x && not (door_of (get_or ws i 0))

-- r is the first position from `from` on whose node is not below x, or past the end
pub record Advanced (ws : List ℕ) (from x r : ℕ) : Type 0 where
  pub below : (j : ℕ) → from ≤ j → j < r → node_at ws j ≡ true → number ws j < x
  pub stop : r < length ws → (node_at ws r ≡ true) × (x ≤ number ws r)

-- the call c was marked, if its node stands at i
pub record SeededAt (ws : List ℕ) (t : ℕ) (w w' : List ℕ) (i c top : ℕ) : Type 0 where
  pub kept : Kept ws t w w'
  pub begun : Begun ws t w' top
  pub closed : (follow : List ℕ) → StepClosed ws follow w → StepClosed ws follow w'
  pub marks : (ds : List ℕ) → Marks ws w ds → Marks ws w' (cond (holds_at ws i (pair_node c)) (c ∷ ds) ds)

-- the called pairs of the part, and no others, are marked
pub record SeededAll (ws cs : List ℕ) (t : ℕ) (w w' : List ℕ) (top : ℕ) : Type 0 where
  pub kept : Kept ws t w w'
  pub begun : Begun ws t w' top
  pub closed : (follow : List ℕ) → StepClosed ws follow w'
  pub marks : Marks ws w' (called_in (drop 1 ws) (drop 1 cs))
