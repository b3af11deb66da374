-- Products and sums that wrap: a product of two numbers below a bound fits twice the width; a number that was wrapped is wrapped again with what is
-- added. Assumes nothing.
use Rattle.std.proofs.Common.{◌≡◌, ℕ, ◌+◌, ◌*◌, ◌%◌, ◌^◌, ◌<◌, lt_of_le_of_lt, le_of_lt, mul-le-mul_left, mul-lt-mul_of_pos_right, arith, pow_pos, pow-add}
use mathlib.Core.Path.{subst⁻¹}

pub below : (k : ℕ) {a b : ℕ} → a < 2 ^ k → b < 2 ^ k → a * b < 2 ^ (k + k)
below k {a} {b} ha hb =
    subst⁻¹ (λ (n : ℕ). a * b < n) (pow-add 2 k k)
    (lt_of_le_of_lt (mul-le-mul_left a (le_of_lt hb)) (mul-lt-mul_of_pos_right ha (pow_pos k)))

pub wrapped_add : (a c : ℕ) → (a % 2 ^ 32 + c) % 2 ^ 32 ≡ (a + c) % 2 ^ 32
wrapped_add a c = omega arith
