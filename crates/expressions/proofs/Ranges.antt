-- Which positions begin, end and follow: only those of the expression. Assumes nothing.
use mathlib.Core.Path.{◌≡◌, refl}
use mathlib.Core.Logic.{inl, inr}
use mathlib.Core.Bool.{Bool}
use Prim.Native.Nat.{ℕ, zero, suc, ◌+◌, ◌≤◌, ◌<◌}
use native.Mathlib.Omega.{arith}
use lib.Dec.{T, eqb→eq}
use lib.ListN.{length, length-append}
use Rattle.expressions.specs.Expr.{Expr, empty, letter, then, or, star, letters, count}
use Rattle.expressions.specs.Positions.{first, last, follow, next, step}
use Rattle.sets.proofs.Tests.{or_iff, and_iff}

-- p is a position of e, before which k letters stand
abbrev pub Within : Expr → ℕ → ℕ → Type 0
Within e k p = (k < p) × (p ≤ k + count e)

pub first_within : (e : Expr) (k p : ℕ) → T (first e k p) → Within e k p
first_within empty k p t = absurd t
first_within (letter l) k p t = omega (arith, eqb→eq p (k + 1) t)
first_within (then a b) k p t =
    elim (simp or_iff at t) [ inl x ↦ omega (arith, first_within a k p x) | inr y ↦ omega (arith, first_within b (k + count a) p (simp and_iff at y).1) ]
first_within (or a b) k p t =
    elim (simp or_iff at t) [ inl x ↦ omega (arith, first_within a k p x) | inr y ↦ omega (arith, first_within b (k + count a) p y) ]
first_within (star a) k p t = first_within a k p t

pub last_within : (e : Expr) (k p : ℕ) → T (last e k p) → Within e k p
last_within empty k p t = absurd t
last_within (letter l) k p t = omega (arith, eqb→eq p (k + 1) t)
last_within (then a b) k p t =
    elim (simp or_iff at t) [ inl x ↦ omega (arith, last_within b (k + count a) p x) | inr y ↦ omega (arith, last_within a k p (simp and_iff at y).1) ]
last_within (or a b) k p t =
    elim (simp or_iff at t) [ inl x ↦ omega (arith, last_within a k p x) | inr y ↦ omega (arith, last_within b (k + count a) p y) ]
last_within (star a) k p t = last_within a k p t

pub follow_within : (e : Expr) (k q p : ℕ) → T (follow e k q p) → Within e k q × Within e k p
follow_within empty k q p t = absurd t
follow_within (letter l) k q p t = absurd t
follow_within (then a b) k q p t =
    elim (simp or_iff at t) [
      | inl x ↦ elim (simp or_iff at x) [ inl y ↦ omega (arith, follow_within a k q p y) | inr y ↦ omega (arith, follow_within b (k + count a) q p y) ]
      | inr y ↦ let z = simp and_iff at y in omega (arith, last_within a k q z.0, first_within b (k + count a) p z.1)
    ]
follow_within (or a b) k q p t =
    elim (simp or_iff at t) [ inl y ↦ omega (arith, follow_within a k q p y) | inr y ↦ omega (arith, follow_within b (k + count a) q p y) ]
follow_within (star a) k q p t =
    elim (simp or_iff at t) [
      | inl y ↦ follow_within a k q p y
      | inr y ↦ let z = simp and_iff at y in (last_within a k q z.0, first_within a k p z.1)
    ]

pub next_range : (e : Expr) (q p : ℕ) → T (next e q p) → (1 ≤ p) × (p ≤ count e)
next_range e zero p t = omega (arith, first_within e 0 p t)
next_range e (suc q) p t = omega (arith, follow_within e 0 (suc q) p t)

-- A step leads to a position, never to 0.
pub step_range : (holds : ℕ → ℕ → Bool) (e : Expr) (q a p : ℕ) → T (step holds e q a p) → (1 ≤ p) × (p ≤ count e)
step_range holds e q a p t = next_range e q p (simp and_iff at t).0

-- The letters are as many as the count says.
pub length_letters : (e : Expr) → length (letters e) ≡ count e
length_letters empty = refl
length_letters (letter l) = refl
length_letters (then a b) = simp (length-append, length_letters a, length_letters b)
length_letters (or a b) = simp (length-append, length_letters a, length_letters b)
length_letters (star a) = length_letters a
