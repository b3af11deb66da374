-- The size of lists put together by the size of each, at most and at least. Assumes nothing.
use mathlib.Core.Path.{◌≡◌, refl, subst}
use mathlib.Core.List.{List, [], ◌∷◌, ◌++◌, map, flatten}
use Prim.Native.Nat.{ℕ, ◌+◌, ◌*◌, ◌≤◌}
use native.Mathlib.Omega.{arith}
use lib.ListN.{length, length-append}
use Rattle.sets.specs.Sets.{Mem, here, there}

-- a relation of sizes that sums keep: at most, and at least
pub record Sums (R : ℕ → ℕ → Type 0) : Type 0 where
  pub same : (a : ℕ) → R a a
  pub sum : (a b c d : ℕ) → R a b → R c d → R (a + c) (b + d)

pub at_most : Sums ◌≤◌
at_most = record { same = λ a. omega arith; sum = λ a b c d h k. omega arith }

pub at_least : Sums (λ a b. b ≤ a)
at_least = record { same = λ a. omega arith; sum = λ a b c d h k. omega arith }

-- a size of lists that is the sum of those of its parts
pub record Size {A : Type 0} (size : List A → ℕ) : Type 0 where
  pub none : size [] ≡ 0
  pub both : (xs ys : List A) → size (xs ++ ys) ≡ size xs + size ys

pub by_length : {A : Type 0} → Size (λ (xs : List A). length xs)
by_length = record { none = refl; both = length-append }

-- each of at most size k, or each of at least
pub flatten_by : {A B : Type 0} {R : ℕ → ℕ → Type 0} {size : List B → ℕ} → Sums R → Size size → (f : A → List B) (k : ℕ) (xs : List A)
    → ((x : A) → Mem x xs → R (size (f x)) k) → R (size (flatten (map f xs))) (length xs * k)
unfolding flatten
flatten_by {R = R} sums z f k [] h = rw z.none (subst (R 0) (omega arith) (sums.same 0))
flatten_by {R = R} sums z f k (x ∷ xs) h =
    rw z.both (subst (R _) (omega arith) (sums.sum _ _ _ _ (h x (here refl)) (flatten_by sums z f k xs (λ y m. h y (there m)))))
