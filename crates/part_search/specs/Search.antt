-- Inner. Where a search may begin, what it steps along, and what it finds.
use Rattle.std.specs.Prelude.{◌≡◌, ◌⊎◌, ◌↔◌, true, false, List, ◌∷◌, ℕ, ◌≤◌, ◌<◌, T, length, get_or, drop}
use Rattle.sets.specs.Sets.{Mem}
use Rattle.sets.specs.Reach.{Reach}
use Rattle.sets.specs.States.{has_state}
use Rattle.files.specs.Field.{label_of, pair, pair_node, pair_state}
use Rattle.files.specs.Limits.{part_words}
use Rattle.expressions.specs.Expr.{Expr, count}
use Rattle.expressions.specs.Positions.{next, label_word}
use Rattle.expressions.specs.Labels.{holds}
use Rattle.walks.specs.Product.{step_in}
use Rattle.slots.specs.Slots.{node_at, edge_at, idle_at, number, reached_of, pending_of, mask_of, slot_of, is_reached, is_pending, Laid, Kept}
use Rattle.entering.specs.Entering.{Edge, Waiting}

-- the tables where a search may begin or go on: what is pending is reached, and the nodes that wait stand on the stack
pub record Begun (ws : List ℕ) (t : ℕ) (w : List ℕ) (top : ℕ) : Type 0 where
  pub laid : Laid ws t w
  pub within : (j q : ℕ) → j < length ws → is_pending ws w j q ≡ true → is_reached w j q ≡ true
  pub stack : Waiting ws t w top

-- a step along the tables w: an edge word of the node at i leads to slot j and lets p be entered, and p may follow q
abbrev pub Step : List ℕ → List ℕ → List ℕ → ℕ → ℕ → ℕ → ℕ → Type 0
Step ws w follow i q j p = (q < 16) × ((x : ℕ) × Edge ws w i (length ws) j p x) × (has_state (get_or follow q 0) p ≡ true)

-- what is reached and no longer pending has all that it steps to reached
abbrev pub StepClosed : List ℕ → List ℕ → List ℕ → Type 0
StepClosed ws follow w =
    (i q j p : ℕ) → i < length ws → is_reached w i q ≡ true → is_pending ws w i q ≡ false → Step ws w follow i q j p → is_reached w j p ≡ true

-- the pairs that are marked are those of cs
pub record Marks (ws w cs : List ℕ) : Type 0 where
  pub sound : (j q : ℕ) → j < length ws → q < 16 → is_reached w j q ≡ true → (node_at ws j ≡ true) × Mem (pair (number ws j) q) cs
  pub complete : (c : ℕ) → Mem c cs → (j : ℕ) × (j < length ws) × (node_at ws j ≡ true) × (number ws j ≡ pair_node c) × (is_reached w j (pair_state c) ≡ true)

-- what is reached is come to from the pairs of cs by the part's steps, and those pairs are reached
pub record Sought (ws : List ℕ) (e : Expr) (w cs : List ℕ) : Type 0 where
  pub sound : (j q : ℕ) → j < length ws → q < 16 → is_reached w j q ≡ true → Reach (step_in (drop 1 ws) e) cs (pair (number ws j) q)
  pub complete : (c : ℕ) → Mem c cs → (j : ℕ) × (j < length ws) × (node_at ws j ≡ true) × (number ws j ≡ pair_node c) × (is_reached w j (pair_state c) ≡ true)

-- nothing is marked
pub record Blank (ws w : List ℕ) : Type 0 where
  pub reached : (j : ℕ) → j < length ws → reached_of w j ≡ 0
  pub pending : (j : ℕ) → j < length ws → node_at ws j ≡ true → pending_of w j ≡ 0

-- the marks at position i were taken away
pub record Forgot (ws w w' : List ℕ) (i : ℕ) : Type 0 where
  pub kept : (t : ℕ) → Kept ws t w w'
  pub reached : reached_of w' i ≡ 0
  pub pending : node_at ws i ≡ true → pending_of w' i ≡ 0
  pub others : (j : ℕ) → j < part_words → (j ≡ i → ⊥) → (reached_of w' j ≡ reached_of w j) × (pending_of w' j ≡ pending_of w j)

-- tables in which nothing is marked, of those that were laid out
pub record Fresh (ws : List ℕ) (t : ℕ) (w w' : List ℕ) : Type 0 where
  pub kept : Kept ws t w w'
  pub blank : Blank ws w'
  pub begun : Begun ws t w' 0

-- the node at i was marked in state q
pub record Seeded (ws : List ℕ) (t : ℕ) (w w' : List ℕ) (i q top : ℕ) : Type 0 where
  pub kept : Kept ws t w w'
  pub begun : Begun ws t w' top
  pub closed : (follow : List ℕ) → StepClosed ws follow w → StepClosed ws follow w'
  pub marks : (cs : List ℕ) → Marks ws w cs → Marks ws w' (pair (number ws i) q ∷ cs)
  pub sought : (e : Expr) (cs : List ℕ) → Sought ws e w cs → Sought ws e w' (pair (number ws i) q ∷ cs)

-- row q of the table has what may come next in state q of the expression, which has at most 15 letters
pub record Follow (e : Expr) (follow : List ℕ) : Type 0 where
  pub small : count e ≤ 15
  pub row : (q p : ℕ) → q < 16 → has_state (get_or follow q 0) p ≡ next e q p

-- the mask of an edge word has the positions whose label word holds its label, and none behind a stopped node
abbrev pub Masked : List ℕ → Expr → List ℕ → Type 0
Masked ws e w =
    (x p : ℕ) → x < length ws → edge_at ws x ≡ true
    → (has_state (mask_of w x) p ≡ true) ↔ ((idle_at ws x ≡ false) × (1 ≤ p) × (p ≤ count e) × T (holds (label_word e p) (label_of (get_or ws x 0))))

-- the tables of a part for searches by an expression's automaton
pub record Tables (ws : List ℕ) (e : Expr) (t : ℕ) (w : List ℕ) : Type 0 where
  pub laid : Laid ws t w
  pub masked : Masked ws e w

-- j is the slot of a node or of an outside target
abbrev pub Slot : List ℕ → List ℕ → ℕ → Type 0
Slot ws w j = (j < length ws) × ((node_at ws j ≡ true) ⊎ (slot_of w j ≡ j) × (edge_at ws j ≡ true))

-- a slot is reached in just the states that a walk inside the part leads to from a pair that was sought from; and another search may begin
-- where this one ended
pub record Searched (ws : List ℕ) (t : ℕ) (follow w w' : List ℕ) : Type 0 where
  pub kept : Kept ws t w w'
  pub exact : (e : Expr) (cs : List ℕ) → Follow e follow → Masked ws e w → Sought ws e w cs → (j q : ℕ) → Slot ws w j → q < 16
      → (is_reached w' j q ≡ true) ↔ Reach (step_in (drop 1 ws) e) cs (pair (number ws j) q)
  pub begun : Begun ws t w' 0
  pub closed : StepClosed ws follow w'
  pub sought : (e : Expr) (cs : List ℕ) → Follow e follow → Masked ws e w → Sought ws e w cs → Sought ws e w' cs
