-- Inner. What is known when the distances are measured: whether there is a walk, and by how many links the best one goes from the root.
use Rattle.std.specs.Prelude.{◌≡◌, List, [], ◌∷◌, ℕ, drop, Option, Some, None}
use Rattle.std.proofs.Math.Option as walk
use Rattle.expressions.specs.Expr.{Expr}
use Rattle.expressions.specs.Labels.{holds, expr_of}
use Rattle.slots.specs.Slots.{number}
use Rattle.file_walks.specs.Walks.{runs_in}
use Rattle.best_walks.specs.Finder.{choose}
use Rattle.walk_choice.specs.Choices.{near}
use Rattle.walk_find.specs.Walk.{found_walk}
use Rattle.walk_find.specs.declared.call.Best.{Best}

-- the links that the distances in w choose, d of them from the node at `root`
abbrev pub links_by : List ℕ → List ℕ → Expr → ℕ → ℕ → List ℕ
links_by ws w e root d = choose holds (runs_in (drop 1 ws)) (drop 1 ws) e (near ws w) d (number ws root) (0 ∷ [])

-- r is how the best walk goes, where there is one
pub record Measured (ws path : List ℕ) (y : ℕ) (w : List ℕ) (r : Option Best) : Type 0 where
  pub none : r ≡ None → found_walk ws path y ≡ walk.none
  pub some : (b : Best) → r ≡ Some b → found_walk ws path y ≡ walk.some (links_by ws w (expr_of (drop 1 path)) b.root b.links)
