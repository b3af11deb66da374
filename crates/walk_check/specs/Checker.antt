-- Believed. The checker, computed: a set of states steps along the edge words. Document 02, request 10; that its yes is an accepted walk is `check_iff`.
-- It knows the file, the expression's automaton and nothing of a search.
use Rattle.std.specs.Prelude.{Bool, ◌&&◌, List, [], ◌∷◌, ℕ, eqb}
use Rattle.sets.specs.Sets.{member, any}
use Rattle.files.specs.Field.{label_of, target_of}
use Rattle.files.specs.Part.{edges, roots}
use Rattle.expressions.specs.Expr.{Expr}
use Rattle.expressions.specs.Positions.{accepts}
use Rattle.file_walks.specs.Moving.{moved}

module _ (holds : ℕ → ℕ → Bool) (runs : ℕ → Bool) (body : List ℕ) (e : Expr) (y : ℕ) where
  -- from x with the states s the words lead to y and an accepting state
  unfoldable pub goes : ℕ → List ℕ → List ℕ → Bool
  goes x s [] = eqb x y && any (accepts e) s
  goes x s (w ∷ ws) = member w (edges body x) && runs (target_of w) && goes (target_of w) (moved holds e s (label_of w)) ws

  unfoldable pub check : List ℕ → Bool
  check ws = any (λ r. runs r && goes r (0 ∷ []) ws) (roots body)
