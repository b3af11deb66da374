-- Inner. A round over the positions of a whole's words, as the theory's `Turning`: which edges are handled, and the list of the nodes that got a number.
use Rattle.std.specs.Prelude.{◌≡◌, ◌⊎◌, Bool, true, ◌&&◌, List, ℕ, suc, ◌+◌, ◌*◌, ◌≤◌, ◌<◌, length, get_or, drop, Option, Some, None}
use Rattle.sets.specs.Stack.{Stacked}
use Rattle.sets.specs.Table.{half}
use Rattle.expressions.specs.Expr.{Expr}
use Rattle.expressions.specs.Labels.{holds}
use Rattle.paths.specs.declared.automaton.Automaton.{Automaton}
use Rattle.paths.specs.Automaton.{Automates}
use Rattle.slots.specs.Slots.{node_at, edge_at, number, Behind}
use Rattle.file_walks.specs.Walks.{runs_in}
use Rattle.best_walks.proofs.Rounds.{Round, Turning}
use Rattle.walk_rows.specs.Distances.{distance, numbered}
use Rattle.walk_links.specs.Tables.{first_base, second_base, Measurable, Edged, Indexed}

-- w is the edge word of x at a position that is done
abbrev pub Handled : List ℕ → (ℕ → Bool) → ℕ → ℕ → Type 0
Handled ws done x w = (b : ℕ) × (i : ℕ) × Behind ws b i × (number ws b ≡ x) × (get_or ws i 0 ≡ w) × (done i ≡ true)

-- more edges are handled, as the working buffer changes from w to w', in the round that writes the number v
abbrev pub Turns : List ℕ → Automaton → ℕ → List ℕ → List ℕ → (ℕ → Bool) → (ℕ → Bool) → Type 0
Turns ws a v w w' done done' = (e : Expr) → Automates a e → (y k : ℕ) (table : ℕ → ℕ → ℕ) → v ≡ suc (suc k)
    → Turning holds (runs_in (drop 1 ws)) (drop 1 ws) e y k table (distance ws w) (Handled ws done)
    → Turning holds (runs_in (drop 1 ws)) (drop 1 ws) e y k table (distance ws w') (Handled ws done')

-- the nodes that have a number v stand in the list that starts at byte `base`, each once
pub record Waiting (ws w o : List ℕ) (base v top : ℕ) : Type 0 where
  pub stacked : Stacked (length ws) (λ j. node_at ws j && numbered w j v) (half o base) top

-- the byte where one of the two lists starts
abbrev pub IsList : ℕ → Type 0
IsList base = (base ≡ first_base) ⊎ (base ≡ second_base)

-- all tables are there
pub record Ready (ws : List ℕ) (a : Automaton) (w o : List ℕ) : Type 0 where
  pub measurable : Measurable ws w o
  pub edged : Edged ws a w
  pub indexed : Indexed ws o

-- the tables, and the list at `to` of the nodes that have got the number v, in the round that writes it
pub record Numbering (ws : List ℕ) (a : Automaton) (w o : List ℕ) (to v top : ℕ) : Type 0 where
  pub ready : Ready ws a w o
  pub list : IsList to
  pub waiting : Waiting ws w o to v top
  pub big : 1 < v

-- the tables before that round, which reads the list at `from`
pub record Starting (ws : List ℕ) (a : Automaton) (w o : List ℕ) (from to count v : ℕ) : Type 0 where
  pub ready : Ready ws a w o
  pub reads : IsList from
  pub writes : IsList to
  pub apart : from ≡ to → ⊥
  pub big : 1 < v
  pub listed : (u : ℕ) → v ≡ suc u → Waiting ws w o from u count

-- only v was written, over 0, in rows of node words; and only in the list at `to`
pub record Written (ws : List ℕ) (to v : ℕ) (w w' o o' : List ℕ) : Type 0 where
  pub grown : (m : ℕ) → (half w' 0 m ≡ half w 0 m) ⊎ ((half w 0 m ≡ 0) × (half w' 0 m ≡ v))
  pub rows : (x k : ℕ) → edge_at ws x ≡ true → k < 16 → half w' 0 (16 * x + k) ≡ half w 0 (16 * x + k)
  pub list : (b j : ℕ) → (b + 2 * j + 1 < to) ⊎ (to + 2048 ≤ b + 2 * j) → half o' b j ≡ half o b j
  pub long : length w' ≡ length w
  pub long_out : length o' ≡ length o

-- rounds are done: r counts the links by which the root arrives in state 0, and where it does not arrive, no number is of the last round
pub record Reached (ws : List ℕ) (e : Expr) (y : ℕ) (w : List ℕ) (root : ℕ) (r : Option ℕ) : Type 0 where
  pub last : ℕ
  pub round : Round holds (runs_in (drop 1 ws)) (drop 1 ws) e y last (distance ws w)
  pub some : (d : ℕ) → r ≡ Some d → distance ws w root 0 ≡ suc d
  pub none : r ≡ None → (distance ws w root 0 ≡ 0) × ((x q : ℕ) → distance ws w x q ≡ suc last → ⊥)
