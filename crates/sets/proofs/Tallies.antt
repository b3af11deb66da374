-- How many numbers below n pass a test: the measure of a search is such a count. Assumes nothing.
use mathlib.Core.Path.{◌≡◌, refl}
use mathlib.Core.Logic.{⊎_elim}
use mathlib.Core.Bool.{Bool, true, false}
use Prim.Native.Nat.{ℕ, zero, suc, ◌+◌, ◌≤◌, ◌<◌}
use native.Mathlib.Nat.{le_refl, not-suc-le-zero, eq-or-lt_of_le, le_of_suc-le-suc}
use native.Mathlib.Omega.{arith}
use native.Mathlib.Numerals.{add-one}
use Rattle.sets.specs.Tally.{one, tally}

one_le : (a b : Bool) → (a ≡ true → b ≡ true) → one a ≤ one b
one_le true b h = rw (h refl) (le_refl 1)
one_le false b h = omega arith

-- a test that passes less
pub tally_le : (p p' : ℕ → Bool) (n : ℕ) → ((k : ℕ) → k < n → p k ≡ true → p' k ≡ true) → tally p n ≤ tally p' n
unfolding tally
tally_le p p' zero h = omega arith
tally_le p p' (suc n) h = omega (arith, one_le (p n) (p' n) (h n (omega arith)), tally_le p p' n (λ k l. h k (omega arith)))

-- a test that passes less, and at some place fails where the other passes
pub tally_lt : (p p' : ℕ → Bool) (n x : ℕ) → ((k : ℕ) → k < n → p k ≡ true → p' k ≡ true) → x < n → p x ≡ false → p' x ≡ true → tally p n < tally p' n
unfolding tally
tally_lt p p' zero x h l f t = absurd (not-suc-le-zero l)
tally_lt p p' (suc n) x h l f t =
    ⊎_elim (λ (e : x ≡ n). let f' : p n ≡ false = rw e at f in let t' : p' n ≡ true = rw e at t in rw (f', t') (omega (arith, tally_le p p' n (λ k g. h k (omega arith)))))
    (λ (g : x < n). omega (arith, one_le (p n) (p' n) (h n (omega arith)), tally_lt p p' n x (λ k d. h k (omega arith)) g f t))
    (eq-or-lt_of_le (le_of_suc-le-suc l))

pub tally_bound : (p : ℕ → Bool) (n : ℕ) → tally p n ≤ n
unfolding tally
tally_bound p zero = omega arith
tally_bound p (suc n) = omega (arith, one_le (p n) true (λ e. refl), tally_bound p n)

-- two tests that agree
pub tally_same : (p p' : ℕ → Bool) (n : ℕ) → ((k : ℕ) → k < n → p k ≡ p' k) → tally p n ≡ tally p' n
unfolding tally
tally_same p p' zero h = refl
tally_same p p' (suc n) h = rw (h n (omega arith), tally_same p p' n (λ k l. h k (omega arith)))

-- two tests that agree but at x, where only the second passes
pub tally_more : (p p' : ℕ → Bool) (n x : ℕ) → x < n → p x ≡ false → p' x ≡ true → ((k : ℕ) → k < n → (k ≡ x → ⊥) → p k ≡ p' k) → tally p' n ≡ tally p n + 1
unfolding tally
tally_more p p' zero x l f t h = absurd (not-suc-le-zero l)
tally_more p p' (suc n) x l f t h =
    ⊎_elim (λ (e : x ≡ n). let f' : p n ≡ false = rw e at f in let t' : p' n ≡ true = rw e at t in rw (f', t') (omega (arith, tally_same p p' n (λ k g. h k (omega arith) (λ d. omega arith)))))
    (λ (g : x < n). rw (h n (omega arith) (λ d. omega arith)) (omega (arith, tally_more p p' n x g f t (λ k d. h k (omega arith)))))
    (eq-or-lt_of_le (le_of_suc-le-suc l))

pub tally_suc : (p : ℕ → Bool) (n : ℕ) → tally p (n + 1) ≡ one (p n) + tally p n
unfolding tally
tally_suc p n = rw add-one

-- none passes
pub tally_none : (p : ℕ → Bool) (n : ℕ) → ((k : ℕ) → k < n → p k ≡ false) → tally p n ≡ 0
unfolding tally
tally_none p zero h = refl
tally_none p (suc n) h = rw (h n (omega arith), tally_none p n (λ k l. h k (omega arith)))

-- counted from the front
pub tally_front : (p : ℕ → Bool) (n : ℕ) → tally p (suc n) ≡ one (p 0) + tally (λ k. p (suc k)) n
unfolding tally
tally_front p zero = refl
tally_front p (suc n) = omega (arith, tally_front p n)

-- two tests that exclude each other
pub tally_apart : (p p' : ℕ → Bool) (n : ℕ) → ((k : ℕ) → k < n → p k ≡ true → p' k ≡ false) → tally p n + tally p' n ≤ n
unfolding tally
tally_apart p p' zero h = omega arith
tally_apart p p' (suc n) h = omega (arith, at_most (p n) (p' n) (h n (omega arith)), tally_apart p p' n (λ k l. h k (omega arith)))
  where
    at_most : (a b : Bool) → (a ≡ true → b ≡ false) → one a + one b ≤ 1
    at_most true b e = rw (e refl) (le_refl 1)
    at_most false b e = omega (arith, one_le b true (λ t. refl))
