-- Inner. The search for the called pairs. A place is the index of a word of the bundle. The front half of the working buffer is a table by places:
-- at a door's place the states reached; at the place behind it, where a word of its rows stands, the pending ones: reached, and their rows not
-- yet followed. A door without rows never waits. Behind the index of the doors (`door_index/specs/Index.antt`) stands the stack of those that wait.
use Rattle.std.specs.Prelude.{◌≡◌, ◌⊎◌, ◌↔◌, Bool, true, false, not, ◌&&◌, ◌||◌, List, map, ℕ, suc, ◌+◌, ◌≤◌, ◌<◌, eqb, length, get_or, drop}
use Rattle.sets.specs.Sets.{Mem}
use Rattle.sets.specs.Reach.{Reach}
use Rattle.sets.specs.Stack.{Stacked}
use Rattle.sets.specs.States.{has_state}
use Rattle.sets.specs.Table.{half}
use Rattle.sets.specs.Tally.{tally}
use Rattle.files.specs.Field.{door_root_of, pair, pair_node, pair_state}
use Rattle.files.specs.Reply.{is_door_word, doors, roots, row, rows}
use Rattle.files.specs.Limits.{bundle_words, work_bytes}
use Rattle.door_index.specs.Index.{DoorAt, index_at}
use Rattle.row_scan.specs.Following.{in_rows}

-- a door with rows stands at j: only such a door waits
abbrev pub expands : List ℕ → ℕ → Bool
expands ws j = is_door_word (get_or ws j 0) && in_rows (get_or ws (suc j) 0)

abbrev pub reached_at : List ℕ → List ℕ → ℕ → ℕ → Bool
reached_at ws w j q = is_door_word (get_or ws j 0) && has_state (half w 0 j) q

abbrev pub pending_at : List ℕ → List ℕ → ℕ → ℕ → Bool
pending_at ws w j q = expands ws j && has_state (half w 0 (suc j)) q

-- The stack of the doors that wait, behind the d places of the index

abbrev pub waits_in : List ℕ → List ℕ → ℕ → Bool
waits_in ws w j = expands ws j && not (eqb (half w 0 (suc j)) 0)

abbrev pub place_in : ℕ → List ℕ → ℕ → ℕ
place_in d w k = index_at w (d + k)

abbrev pub Waiting : List ℕ → ℕ → List ℕ → ℕ → Type 0
Waiting ws d w top = Stacked (length ws) (waits_in ws w) (place_in d w) top

-- the table has room for the bundle's words, and the second half for d doors and all that can wait
pub record Roomy (ws : List ℕ) (d : ℕ) (w : List ℕ) : Type 0 where
  pub few : length ws ≤ bundle_words
  pub long : work_bytes ≤ length w
  pub places : d + tally (expands ws) (length ws) ≤ bundle_words

-- What was entered

-- the index of d doors is left as it is
pub record IndexKept (d : ℕ) (w w' : List ℕ) : Type 0 where
  pub index : (k : ℕ) → k < d → index_at w' k ≡ index_at w k
  pub long : length w' ≡ length w

-- w' is w with state q entered at place j; where it is new and the door has rows, it is pending
pub record Entered (ws : List ℕ) (d : ℕ) (w w' : List ℕ) (j q : ℕ) : Type 0 where
  pub reached : (i p : ℕ) → reached_at ws w' i p ≡ (reached_at ws w i p || (eqb i j && eqb p q))
  pub fresh : (i p : ℕ) → pending_at ws w' i p ≡ (pending_at ws w i p || (expands ws i && (reached_at ws w' i p && not (reached_at ws w i p))))
  pub kept : IndexKept d w w'

-- the door at j waits in state q too
pub record Waits (ws : List ℕ) (d : ℕ) (w w' : List ℕ) (j q : ℕ) : Type 0 where
  pub reached : (i p : ℕ) → reached_at ws w' i p ≡ reached_at ws w i p
  pub pending : (i p : ℕ) → pending_at ws w' i p ≡ (pending_at ws w i p || (eqb i j && eqb p q))
  pub kept : IndexKept d w w'

-- w' is w with pairs entered: only pairs of E, and all of them but those of L; and what is new is pending
pub record Growing (ws : List ℕ) (d : ℕ) (E L : ℕ → ℕ → Type 0) (w w' : List ℕ) : Type 0 where
  pub more : (j q : ℕ) → reached_at ws w j q ≡ true → reached_at ws w' j q ≡ true
  pub fresh : (j q : ℕ) → pending_at ws w' j q ≡ (pending_at ws w j q || (expands ws j && (reached_at ws w' j q && not (reached_at ws w j q))))
  pub only : (j q : ℕ) → reached_at ws w' j q ≡ true → (reached_at ws w j q ≡ true) ⊎ E j q
  pub all : (j q : ℕ) → E j q → (reached_at ws w' j q ≡ true) ⊎ L j q
  pub kept : IndexKept d w w'

abbrev pub PairsEntered : List ℕ → ℕ → (ℕ → ℕ → Type 0) → List ℕ → List ℕ → Type 0
PairsEntered ws d E w w' = Growing ws d E (λ j q. ⊥) w w'

-- the pairs of a set, at the places of their nodes' doors
abbrev pub Placed : List ℕ → (ℕ → Type 0) → ℕ → ℕ → Type 0
Placed ws P j p = (c : ℕ) × P c × DoorAt ws (pair_node c) j × (p ≡ pair_state c)

-- Rows

-- the row of state q of the door at i leads to state p at place j
abbrev pub RowLeads : List ℕ → ℕ → ℕ → ℕ → ℕ → Type 0
RowLeads ws i q j p = (is_door_word (get_or ws i 0) ≡ true) × Placed ws (λ c. Mem c (row (drop (suc i) ws) q)) j p

-- a pair in the row of a state of s
abbrev pub InRows : ℕ → List ℕ → ℕ → Type 0
InRows s ws c = (q : ℕ) × (has_state s q ≡ true) × Mem c (row ws q)

-- a pair that names no door of the bundle, among those of P
abbrev pub Stray : List ℕ → (ℕ → Type 0) → Type 0
Stray ws P = (c : ℕ) × P c × (Mem (pair_node c) (doors ws) → ⊥)

-- each pair of P names a door
abbrev pub Homely : List ℕ → (ℕ → Type 0) → Type 0
Homely ws P = (c : ℕ) → P c → Mem (pair_node c) (doors ws)

-- the rows of the states of s behind place i were followed: none of their pairs is a stray, and all are entered
pub record Followed (ws : List ℕ) (d i s : ℕ) (w w' : List ℕ) (top : ℕ) : Type 0 where
  pub homely : Homely ws (InRows s (drop (suc i) ws))
  pub enters : PairsEntered ws d (Placed ws (InRows s (drop (suc i) ws))) w w'
  pub waiting : Waiting ws d w' top

-- The search

-- the door word of a root
abbrev pub is_root_word : ℕ → Bool
is_root_word w = is_door_word w && door_root_of w

-- a root's pair
abbrev pub IsRoot : List ℕ → ℕ → Type 0
IsRoot ws c = (pair_state c ≡ 0) × Mem (pair_node c) (roots ws)

-- the root's pair
abbrev pub seeds : List ℕ → List ℕ
seeds ws = map (λ x. pair x 0) (roots ws)

-- a pair that the rows reach from the root's
abbrev pub Called : List ℕ → ℕ → Type 0
Called ws c = Reach (rows ws) (seeds ws) c

-- at a door's place the states in which its node is called
abbrev pub PairsCalled : List ℕ → List ℕ → Type 0
PairsCalled ws w = (x j q : ℕ) → DoorAt ws x j → q < 16 → (has_state (half w 0 j) q ≡ true) ↔ Called ws (pair x q)

-- what the search leaves: a stray was met, or all called pairs name doors and are in the table
pub record Searched (ws : List ℕ) (d : ℕ) (w w' : List ℕ) (stray : Bool) : Type 0 where
  pub strays : stray ≡ true → Stray ws (Called ws)
  pub homely : stray ≡ false → Homely ws (Called ws)
  pub called : stray ≡ false → PairsCalled ws w'
  pub kept : stray ≡ false → IndexKept d w w'
