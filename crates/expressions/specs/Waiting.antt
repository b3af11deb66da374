-- Believed. What is read of a path where at most `most` operands may wait: its expression and position automaton, none where it is refused.
-- Document 02, request 9.
use Rattle.std.specs.Prelude.{ℕ, ◌≡◌, Bool, cond, List, [], map, eqb, drop}
use Rattle.std.proofs.Math.Option
use Rattle.std.proofs.Math.Option.{Option, none}
use Rattle.files.specs.Path.{path_check_by}
use Rattle.expressions.specs.Expr.{Expr, count}
use Rattle.expressions.specs.Positions.{next, accepts, label_word}
use Rattle.expressions.specs.Postfix.{read}
use Rattle.expressions.specs.Labels.{item}

abbrev pub expr_by : ℕ → List ℕ → Option Expr
expr_by most path = cond (eqb (path_check_by most path) 0) (read (map item (drop 1 path)) []) none

-- the position automaton: how many positions, which may come next in a state, in which state a word may end, and each position's label word
pub record PositionAutomaton : Type 0 where
  pub positions : ℕ
  pub follows : ℕ → ℕ → Bool
  pub accepting : ℕ → Bool
  pub words : ℕ → ℕ

abbrev pub automaton_of : Expr → PositionAutomaton
automaton_of e = record { positions = count e; follows = next e; accepting = accepts e; words = label_word e }

abbrev pub automaton_by : ℕ → List ℕ → Option PositionAutomaton
automaton_by most path = Option.map automaton_of (expr_by most path)

-- the path has the same check, expression and automaton where a may wait as where b may
pub record SameBy (a b : ℕ) (path : List ℕ) : Type 0 where
  pub check : path_check_by a path ≡ path_check_by b path
  pub expression : expr_by a path ≡ expr_by b path
  pub automaton : automaton_by a path ≡ automaton_by b path
