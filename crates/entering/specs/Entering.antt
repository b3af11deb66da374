-- Inner. What entering a slot, and following the edge words of a node, does to the tables of a search.
use Rattle.std.specs.Prelude.{◌≡◌, ◌⊎◌, true, not, ◌&&◌, ◌||◌, List, ℕ, ◌<◌, eqb, length}
use Rattle.sets.specs.States.{has_state}
use Rattle.sets.specs.Stack.{Stacked}
use Rattle.files.specs.Limits.{part_words}
use Rattle.slots.specs.Slots.{node_at, Behind, reached_of, mask_of, slot_of, is_reached, is_pending, Kept, waits_in, place_in}

-- from the tables w to w' only pairs were gained, and each that a node gained is pending
pub record Grown (ws : List ℕ) (t : ℕ) (w w' : List ℕ) : Type 0 where
  pub kept : Kept ws t w w'
  pub more : (j p : ℕ) → j < part_words → is_reached w j p ≡ true → is_reached w' j p ≡ true
  pub fresh : (j p : ℕ) → j < part_words → is_pending ws w' j p ≡ (is_pending ws w j p || (node_at ws j && (is_reached w' j p && not (is_reached w j p))))

-- slot s was entered in the states of m
pub record Entered (ws : List ℕ) (t : ℕ) (w w' : List ℕ) (s m : ℕ) : Type 0 where
  pub grown : Grown ws t w w'
  pub reached : (j p : ℕ) → j < part_words → is_reached w' j p ≡ (is_reached w j p || (eqb j s && has_state m p))

-- the node at s waits in the states of m too
pub record Waits (ws : List ℕ) (t : ℕ) (w w' : List ℕ) (s m : ℕ) : Type 0 where
  pub kept : Kept ws t w w'
  pub reached : (j : ℕ) → j < part_words → reached_of w' j ≡ reached_of w j
  pub pending : (j p : ℕ) → j < part_words → is_pending ws w' j p ≡ (is_pending ws w j p || (eqb j s && has_state m p))

-- an edge word x of the node word at i, before position `to`, leads to slot j and lets state p be entered
pub record Edge (ws w : List ℕ) (i to j p x : ℕ) : Type 0 where
  pub behind : Behind ws i x
  pub before : x < to
  pub target : slot_of w x ≡ j
  pub mask : has_state (mask_of w x) p ≡ true

-- an edge word of the node word at i leads to slot j in a state p of u
abbrev pub Hit : List ℕ → List ℕ → ℕ → ℕ → ℕ → ℕ → ℕ → Type 0
Hit ws w i u to j p = ((x : ℕ) × Edge ws w i to j p x) × (has_state u p ≡ true)

-- the pairs of Hit were entered, and no others
pub record Walked (ws : List ℕ) (t : ℕ) (Hit : ℕ → ℕ → Type 0) (w w' : List ℕ) : Type 0 where
  pub grown : Grown ws t w w'
  pub only : (j p : ℕ) → j < part_words → is_reached w' j p ≡ true → (is_reached w j p ≡ true) ⊎ Hit j p
  pub all : (j p : ℕ) → j < part_words → Hit j p → is_reached w' j p ≡ true

-- `top` nodes wait, and stand on the stack
abbrev pub Waiting : List ℕ → ℕ → List ℕ → ℕ → Type 0
Waiting ws t w top = Stacked (length ws) (waits_in ws w) (place_in t w) top
