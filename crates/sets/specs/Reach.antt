-- Believed. The least set that holds the seeds and is closed under a step, as a property and as a computed list.
-- Assumes nothing.
use mathlib.Core.List.{List, [], ◌∷◌, map, flatten}
use Rattle.std.specs.Prelude.{ℕ, zero, suc, ◌^◌}
use Rattle.sets.specs.Sets.{Mem, union, minus, set_of}

-- what some number of steps from a seed comes to
pub data Reach (step : ℕ → List ℕ) (seeds : List ℕ) : ℕ → Type 0 where
  seed : {x : ℕ} → Mem x seeds → Reach step seeds x
  next : {x y : ℕ} → Reach step seeds x → Mem y (step x) → Reach step seeds y

-- P is the least set that holds the seeds and is closed under the step
pub record Least (Seed : ℕ → Type 0) (Step : ℕ → ℕ → Type 0) (P : ℕ → Type 0) : Type 1 where
  pub holds : (x : ℕ) → Seed x → P x
  pub closed : (x y : ℕ) → P x → Step x y → P y
  pub least : (Q : ℕ → Type 0) → ((x : ℕ) → Seed x → Q x) → ((x y : ℕ) → Q x → Step x y → Q y) → (x : ℕ) → P x → Q x

-- `done` with all that is reached from `new`, in at most the given number of rounds: a round moves `new` to `done`, and what
-- its elements step to, where it is not yet in `done`, is new for the next round. It stops when nothing is new.
unfoldable pub grow : ℕ → (ℕ → List ℕ) → List ℕ → List ℕ → List ℕ
unfolding flatten
grow zero step done new = done
grow (suc n) step done [] = done
grow (suc n) step done (x ∷ new) =
    let done' : List ℕ = union (x ∷ new) done in
    grow n step done' (minus (set_of (flatten (map step (x ∷ new)))) done')

-- all that is reached, in at most 2 ^ 20 rounds
unfoldable pub closure : (ℕ → List ℕ) → List ℕ → List ℕ
unfolding grow
closure step seeds = grow (2 ^ 20) step [] (set_of seeds)
