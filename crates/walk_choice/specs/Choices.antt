-- Inner. The choice by the distances: what is near, which edge words open, and the first of them behind a node word.
use Rattle.std.specs.Prelude.{◌≡◌, Bool, ◌&&◌, List, [], ◌∷◌, ℕ, suc, ◌≤◌, eqb, length, get_or, drop, Option, Some, None}
use Rattle.sets.specs.Sets.{any, filter}
use Rattle.files.specs.Field.{label_of, target_of}
use Rattle.files.specs.Part.{edges, whole_check}
use Rattle.files.specs.Limits.{shown_words, work_bytes}
use Rattle.expressions.specs.Expr.{Expr}
use Rattle.expressions.specs.Labels.{holds}
use Rattle.paths.specs.declared.automaton.Automaton.{Automaton}
use Rattle.slots.specs.Slots.{number}
use Rattle.file_walks.specs.Walks.{runs_in}
use Rattle.file_walks.specs.Moving.{moved}
use Rattle.walk_rows.specs.Distances.{distance}
use Rattle.walk_links.specs.Tables.{Edged}

-- a whole, and the rows of its edge words in the working buffer
pub record Linked (ws : List ℕ) (a : Automaton) (w : List ℕ) : Type 0 where
  pub accepted : whole_check ws ≡ 0
  pub few : length ws ≤ shown_words
  pub works : work_bytes ≤ length w
  pub edged : Edged ws a w

-- (x, q) arrives by d links
abbrev pub near : List ℕ → List ℕ → ℕ → ℕ → ℕ → Bool
near ws work d x q = eqb (distance ws work x q) (suc d)

-- the states s move by the edge word w to one that has the number v
unfoldable pub opening : List ℕ → List ℕ → Expr → List ℕ → ℕ → ℕ → Bool
opening ws work e s v w =
    runs_in (drop 1 ws) (target_of w) && any (λ q. eqb (distance ws work (target_of w) q) v) (moved holds e s (label_of w))

-- r is the position of the first edge word of the node at i that opens, where one does
pub record FirstOpen (ws work : List ℕ) (e : Expr) (s : List ℕ) (v i : ℕ) (r : Option ℕ) : Type 0 where
  pub none : r ≡ None → filter (opening ws work e s v) (edges (drop 1 ws) (number ws i)) ≡ []
  pub some : (x : ℕ) → r ≡ Some x → (rest : List ℕ) × (filter (opening ws work e s v) (edges (drop 1 ws) (number ws i)) ≡ get_or ws x 0 ∷ rest)
