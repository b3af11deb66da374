-- Inner. A part by the positions of its words, the header's being 0, and the slots of a search: a node of the part has its slot at its node word,
-- a target outside the part at the first edge word that leads to it.
use Rattle.std.specs.Prelude.{◌≡◌, Bool, true, false, cond, not, ◌&&◌, List, ℕ, zero, suc, ◌+◌, ◌≤◌, ◌<◌, eqb, length, get_or}
use Rattle.sets.specs.States.{has_state}
use Rattle.sets.specs.Table.{half}
use Rattle.sets.specs.Tally.{tally}
use Rattle.files.specs.Field.{node_of}
use Rattle.files.specs.Part.{is_node, is_edge, is_stopped, part_check}
use Rattle.files.specs.Limits.{part_words, work_bytes}

-- The bytes of the working buffer where the tables begin, each with a number for each word of a part. The second holds pending states at
-- node words and masks at edge words.
abbrev pub reached_base : ℕ
reached_base = 0

abbrev pub pending_base : ℕ
pending_base = 8192

abbrev pub slots_base : ℕ
slots_base = 16384

abbrev pub places_base : ℕ
places_base = 24576

-- the node words' positions, before any state is reached
abbrev pub owners_base : ℕ
owners_base = 0

unfoldable pub node_at : List ℕ → ℕ → Bool
node_at ws i = is_node (get_or ws i 0)

unfoldable pub edge_at : List ℕ → ℕ → Bool
edge_at ws i = is_edge (get_or ws i 0)

-- the number of a node word, and the target of an edge word
unfoldable pub number : List ℕ → ℕ → ℕ
number ws i = node_of (get_or ws i 0)

-- the word at i is that of a stopped node
unfoldable pub stopped_at : List ℕ → ℕ → Bool
stopped_at ws i = is_stopped (get_or ws i 0)

-- the last node word before x is that of a stopped node
abbrev pub idle_at : List ℕ → ℕ → Bool
idle_at ws zero = false
idle_at ws (suc x) = cond (node_at ws x) (stopped_at ws x) (idle_at ws x)

-- the word at x is that of an edge which a walk may take: its node is not stopped
abbrev pub exit_at : List ℕ → ℕ → Bool
exit_at ws x = edge_at ws x && not (idle_at ws x)

-- the word at x is an edge word of the node word at i: from the one to the other there are edge words only
pub record Behind (ws : List ℕ) (i x : ℕ) : Type 0 where
  pub node : node_at ws i ≡ true
  pub after : i < x
  pub below : x < length ws
  pub edges : (k : ℕ) → i < k → k ≤ x → edge_at ws k ≡ true

-- the tables of a search in the working buffer w, by position: at a slot the states that it was reached in
abbrev pub reached_of : List ℕ → ℕ → ℕ
reached_of w j = half w reached_base j

-- at a node word those of them that are still to be expanded
abbrev pub pending_of : List ℕ → ℕ → ℕ
pending_of w j = half w pending_base j

-- at an edge word the states that may be entered by its label
abbrev pub mask_of : List ℕ → ℕ → ℕ
mask_of w x = half w pending_base x

-- at an edge word the slot of its target
abbrev pub slot_of : List ℕ → ℕ → ℕ
slot_of w x = half w slots_base x

-- the slots of the t outside targets, ascending by target; behind them the nodes stand that wait
abbrev pub place_of : List ℕ → ℕ → ℕ
place_of w k = half w places_base k

abbrev pub is_reached : List ℕ → ℕ → ℕ → Bool
is_reached w j q = has_state (reached_of w j) q

abbrev pub is_pending : List ℕ → List ℕ → ℕ → ℕ → Bool
is_pending ws w j q = node_at ws j && has_state (pending_of w j) q

-- an accepted part, and a working buffer that has room for its tables
pub record Searchable (ws w : List ℕ) : Type 0 where
  pub accepted : part_check ws ≡ 0
  pub few : length ws ≤ part_words
  pub long : work_bytes ≤ length w

-- the tables have room for the part's words, and the stack for its nodes
pub record Roomy (ws : List ℕ) (t : ℕ) (w : List ℕ) : Type 0 where
  pub few : length ws ≤ part_words
  pub long : work_bytes ≤ length w
  pub places : t + tally (node_at ws) (length ws) ≤ part_words

-- j is the slot of a target outside the part
pub record Outer (ws w : List ℕ) (j : ℕ) : Type 0 where
  pub below : j < length ws
  pub edge : edge_at ws j ≡ true
  pub self : slot_of w j ≡ j

-- the tables by which an accepted part with t outside targets is searched
pub record Laid (ws : List ℕ) (t : ℕ) (w : List ℕ) : Type 0 where
  pub accepted : part_check ws ≡ 0
  pub roomy : Roomy ws t w
  pub below : (x : ℕ) → x < length ws → edge_at ws x ≡ true → slot_of w x < length ws
  pub target : (x : ℕ) → x < length ws → edge_at ws x ≡ true → number ws (slot_of w x) ≡ number ws x
  pub inner : (x i : ℕ) → x < length ws → edge_at ws x ≡ true → i < length ws → node_at ws i ≡ true → number ws i ≡ number ws x → slot_of w x ≡ i
  pub outer : (x : ℕ) → x < length ws → edge_at ws x ≡ true → node_at ws (slot_of w x) ≡ false → Outer ws w (slot_of w x)
  pub one : (x y : ℕ) → Outer ws w x → Outer ws w y → number ws x ≡ number ws y → x ≡ y
  pub listed : (k : ℕ) → k < t → Outer ws w (place_of w k)
  pub lists : (j : ℕ) → Outer ws w j → (k : ℕ) × (k < t) × (place_of w k ≡ j)
  pub ascending : (k l : ℕ) → k < l → l < t → number ws (place_of w k) < number ws (place_of w l)

-- what a search leaves as it is
pub record Kept (ws : List ℕ) (t : ℕ) (w w' : List ℕ) : Type 0 where
  pub long : length w' ≡ length w
  pub slots : (x : ℕ) → x < part_words → slot_of w' x ≡ slot_of w x
  pub masks : (x : ℕ) → x < part_words → node_at ws x ≡ false → mask_of w' x ≡ mask_of w x
  pub places : (k : ℕ) → k < t → place_of w' k ≡ place_of w k

-- the nodes that wait, and where they stand
abbrev pub waits_in : List ℕ → List ℕ → ℕ → Bool
waits_in ws w j = node_at ws j && not (eqb (pending_of w j) 0)

abbrev pub place_in : ℕ → List ℕ → ℕ → ℕ
place_in t w k = place_of w (t + k)
