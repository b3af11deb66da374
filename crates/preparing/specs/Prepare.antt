-- Inner. Tables that are ready for searches: `reading label p` says that position p reads the label.
use Rattle.std.specs.Prelude.{◌≡◌, Bool, true, false, not, ◌&&◌, List, ℕ, ◌<◌, length, get_or}
use Rattle.sets.specs.States.{has_state}
use Rattle.files.specs.Field.{label_of}
use Rattle.files.specs.Limits.{part_words}
use Rattle.slots.specs.Slots.{edge_at, idle_at, exit_at, reached_of, pending_of, mask_of, slot_of, place_of}
use Rattle.part_search.specs.Search.{Blank, Begun}

-- the slots and the list of outside targets were left as they are
pub record Unmoved (w w' : List ℕ) : Type 0 where
  pub long : length w' ≡ length w
  pub slots : (x : ℕ) → x < part_words → slot_of w' x ≡ slot_of w x
  pub places : (k : ℕ) → place_of w' k ≡ place_of w k

-- position x has no marks, and the mask of its label where an edge word that a walk may take stands there
pub record Masking (ws : List ℕ) (reading : ℕ → ℕ → Bool) (w : List ℕ) (x : ℕ) : Type 0 where
  pub reached : reached_of w x ≡ 0
  pub idle : exit_at ws x ≡ false → pending_of w x ≡ 0
  pub mask : exit_at ws x ≡ true → (p : ℕ) → has_state (mask_of w x) p ≡ reading (label_of (get_or ws x 0)) p

-- position x was made so
pub record Filled (ws : List ℕ) (reading : ℕ → ℕ → Bool) (w w' : List ℕ) (x : ℕ) : Type 0 where
  pub unmoved : Unmoved w w'
  pub here : Masking ws reading w' x
  pub others : (j : ℕ) → j < part_words → (j ≡ x → ⊥) → (reached_of w' j ≡ reached_of w j) × (pending_of w' j ≡ pending_of w j)

-- all were
pub record AllFilled (ws : List ℕ) (reading : ℕ → ℕ → Bool) (w w' : List ℕ) : Type 0 where
  pub unmoved : Unmoved w w'
  pub all : (x : ℕ) → x < length ws → Masking ws reading w' x

-- the tables of a part with t outside targets, with no pair reached
pub record Prepared (ws : List ℕ) (reading : ℕ → ℕ → Bool) (t : ℕ) (w : List ℕ) : Type 0 where
  pub begun : Begun ws t w 0
  pub blank : Blank ws w
  pub masks : (x p : ℕ) → x < length ws → edge_at ws x ≡ true → has_state (mask_of w x) p ≡ (not (idle_at ws x) && reading (label_of (get_or ws x 0)) p)
