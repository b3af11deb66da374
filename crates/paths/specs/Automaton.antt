-- Inner. A program's automaton is the position automaton of an expression.
use Rattle.std.specs.Prelude.{◌≡◌, Bool, ◌&&◌, List, [], ℕ, ◌≤◌, length, get_or}
use Rattle.std.proofs.Math.Option.{some}
use Rattle.sets.specs.States.{has_state}
use Rattle.expressions.specs.Expr.{Expr, count}
use Rattle.expressions.specs.Positions.{next, accepts, label_word}
use Rattle.expressions.specs.Labels.{between, holds}
use Rattle.expressions.specs.Fragments.{compute, construction_of}
use Rattle.paths.specs.Letters.{reads, Labelled}
use Rattle.paths.specs.Builder.{fragments_in, follow_in}
use Rattle.paths.specs.declared.automaton.Automaton.{Automaton}
use Rattle.paths.specs.declared.builder.Builder.{Builder}

-- position p of the expression reads the label
abbrev pub reads_in : Expr → ℕ → ℕ → Bool
reads_in e label p = between 1 (count e) p && holds (label_word e p) label

-- a is the position automaton of e: what may come next in each state, which states accept, and which labels each position reads
pub record Automates (a : Automaton) (e : Expr) : Type 0 where
  pub follows : (q p : ℕ) → has_state (get_or a.follow q 0) p ≡ next e q p
  pub accepting : (q : ℕ) → has_state a.accepts q ≡ accepts e q
  pub reading : (label p : ℕ) → reads a.letters label p ≡ reads_in e label p
  pub labels : a.letters.n ≡ count e
  pub small : count e ≤ 15

-- after the last word: where `compute` has the tables of an expression, a is its automaton
abbrev pub Finishes : Builder → Automaton → Type 0
Finishes b a =
    (e : Expr) (ws : List ℕ) → Labelled b.letters ws → length ws ≤ 15 → compute [] ws (fragments_in b) (follow_in b) ≡ some (construction_of e) → Automates a e
