-- Expressions whose automata run alike have the same walks: what is reached and what is answered is the same. Assumes nothing.
use mathlib.Core.Path.{◌≡◌, refl, sym, ap, ◌∙◌}
use mathlib.Core.Bool.{Bool, ◌&&◌}
use mathlib.Core.List.{List, map, flatten}
use Prim.Native.Nat.{ℕ}
use lib.Dec.{eqb}
use Rattle.sets.specs.Sets.{filter, any}
use Rattle.sets.specs.Reach.{closure}
use Rattle.files.specs.Field.{label_of, target_of, pair, pair_node, pair_state}
use Rattle.files.specs.Part.{running}
use Rattle.expressions.specs.Expr.{Expr, count}
use Rattle.expressions.specs.Positions.{step, accepts}
use Rattle.expressions.specs.Labels.{holds}
use Rattle.expressions.proofs.Loading.{Alike}
use Rattle.walks.specs.Product.{positions, exits, step_in, reached, answers}

-- one link by a step relation with n positions; the answers by what accepts, among what is reached
abbrev step_by : List ℕ → (ℕ → ℕ → ℕ → Bool) → ℕ → ℕ → List ℕ
step_by part st n c =
    flatten (map (λ w. map (pair (target_of w)) (filter (st (pair_state c) (label_of w)) (positions n))) (exits part (pair_node c)))

abbrev answers_by : List ℕ → (ℕ → Bool) → List ℕ → List ℕ
answers_by part acc s = filter (λ x. any (λ c. eqb (pair_node c) x && acc (pair_state c)) s) (running part)

module _ (part : List ℕ) where
  step_is : (e : Expr) → step_in part e ≡ step_by part (step holds e) (count e)
  unfolding step_in
  step_is e = refl

  reached_is : (e : Expr) (seeds : List ℕ) → reached part e seeds ≡ closure (step_in part e) seeds
  unfolding reached
  reached_is e seeds = refl

  answers_are : (e : Expr) (seeds : List ℕ) → answers part e seeds ≡ answers_by part (accepts e) (reached part e seeds)
  unfolding answers
  answers_are e seeds = refl

  module _ {e e' : Expr} (s : Alike holds e e') where
    step_same : step_in part e ≡ step_in part e'
    step_same = step_is e ∙ ap (λ st. step_by part st (count e)) s.steps ∙ ap (step_by part (step holds e')) s.counts ∙ sym (step_is e')

    pub reached_same : (seeds : List ℕ) → reached part e seeds ≡ reached part e' seeds
    reached_same seeds = reached_is e seeds ∙ ap (λ f. closure f seeds) step_same ∙ sym (reached_is e' seeds)

    pub answers_same : (seeds : List ℕ) → answers part e seeds ≡ answers part e' seeds
    answers_same seeds =
        answers_are e seeds ∙ ap (λ acc. answers_by part acc (reached part e seeds)) s.accepting
        ∙ ap (answers_by part (accepts e')) (reached_same seeds) ∙ sym (answers_are e' seeds)
