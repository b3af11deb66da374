-- Inner. The tables by which walks are found, by the positions of a whole's words. In the working buffer each position has a row of sixteen numbers of
-- two bytes. At an edge word the first three tell the position of its target, the states that it may be entered in, and the edge word before it with
-- the same target. At a node word they are distances (walk_rows/specs/Distances.antt). In the output, until the walk is written, the node word of each word, the last
-- edge word into each node, and two lists of nodes.
use Rattle.std.specs.Prelude.{◌≡◌, true, cond, not, ◌&&◌, List, ℕ, zero, suc, ◌+◌, ◌*◌, ◌≤◌, ◌<◌, eqb, length, get_or}
use Rattle.sets.specs.States.{has_state}
use Rattle.sets.specs.Table.{half}
use Rattle.files.specs.Field.{label_of}
use Rattle.files.specs.Part.{whole_check}
use Rattle.files.specs.Limits.{shown_words, walk_words, work_bytes}
use Rattle.paths.specs.declared.automaton.Automaton.{Automaton}
use Rattle.paths.specs.Letters.{reads}
use Rattle.slots.specs.Slots.{node_at, edge_at, stopped_at, number}
use Rattle.slots.specs.Layout.{Owned}

abbrev pub target_at : List ℕ → ℕ → ℕ
target_at w x = half w 0 (16 * x)

abbrev pub mask_at : List ℕ → ℕ → ℕ
mask_at w x = half w 0 (16 * x + 1)

abbrev pub next_at : List ℕ → ℕ → ℕ
next_at w x = half w 0 (16 * x + 2)

-- the bytes of the output where the tables behind that of the node words begin
abbrev pub heads_base : ℕ
heads_base = 2048

abbrev pub first_base : ℕ
first_base = 4096

abbrev pub second_base : ℕ
second_base = 6144

abbrev pub head_at : List ℕ → ℕ → ℕ
head_at o i = half o heads_base i

-- a whole that is asked for walks, with buffers that have room for the tables
pub record Measurable (ws w o : List ℕ) : Type 0 where
  pub accepted : whole_check ws ≡ 0
  pub few : length ws ≤ shown_words
  pub works : work_bytes ≤ length w
  pub holds : 4 * walk_words ≤ length o

-- the last edge word before position x that leads to t, 0 where there is none
abbrev pub last_into : List ℕ → ℕ → ℕ → ℕ
last_into ws t zero = 0
last_into ws t (suc x) = cond (edge_at ws x && eqb (number ws x) t) x (last_into ws t x)

-- the edge word at x has its row
pub record EdgeRow (ws : List ℕ) (a : Automaton) (w : List ℕ) (x : ℕ) : Type 0 where
  pub node : node_at ws (target_at w x) ≡ true
  pub target : number ws (target_at w x) ≡ number ws x
  pub mask : (p : ℕ) → has_state (mask_at w x) p ≡ (not (stopped_at ws (target_at w x)) && reads a.letters (label_of (get_or ws x 0)) p)
  pub next : next_at w x ≡ last_into ws (number ws x) x

-- all edge words have theirs
abbrev pub Edged : List ℕ → Automaton → List ℕ → Type 0
Edged ws a w = (x : ℕ) → edge_at ws x ≡ true → EdgeRow ws a w x

-- the output's tables: node words, and the last edge word into each node
pub record Indexed (ws o : List ℕ) : Type 0 where
  pub owned : Owned ws o
  pub head : (i : ℕ) → node_at ws i ≡ true → head_at o i ≡ last_into ws (number ws i) (length ws)

-- no node has a distance
abbrev pub Blank : List ℕ → List ℕ → Type 0
Blank ws w = (i q : ℕ) → node_at ws i ≡ true → q < 16 → half w 0 (16 * i + q) ≡ 0

-- the edge words before x have their rows, and the last of them into each node is known
pub record Linking (ws : List ℕ) (a : Automaton) (w o : List ℕ) (x : ℕ) : Type 0 where
  pub owned : Owned ws o
  pub rows : (z : ℕ) → z < x → edge_at ws z ≡ true → EdgeRow ws a w z
  pub heads : (i : ℕ) → node_at ws i ≡ true → head_at o i ≡ last_into ws (number ws i) x
  pub blank : Blank ws w
