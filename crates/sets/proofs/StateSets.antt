-- The laws of a set of states, for any number of digits w: what `has_state` says of the operations on bits.
use mathlib.Core.Path.{◌≡◌, refl, sym, ap, ◌∙◌}
use mathlib.Core.Logic.{◌⊎◌, inl, inr, ⊎_elim}
use mathlib.Core.Bool.{Bool, true, false, cond, not, ◌&&◌, ◌||◌, and-true, true≢false}
use Prim.Native.Nat.{ℕ, zero, suc, ◌+◌, ◌-◌, ◌*◌, ◌/◌, ◌%◌, ◌^◌, ◌≤◌, ◌<◌}
use native.Mathlib.Nat.{div-one, div-div-eq-div-mul, pow-succ', mod-lt, le_of_suc-le-suc, not-suc-le-zero, zero-div, mod-eq_of_lt, div-eq_of_lt, lt_of_lt_of_le, one-mul}
use lib.Pow.{pow_mono, pow-lt, field, mod-mod-pow}
use native.Mathlib.Omega.{arith}
use lib.Dec.{eqb, eqb-zero-suc, eqb-suc-zero, eqb-suc-suc}
use lib.Bits.{bit_and, bit_or, bit_xor, and_shr, or_shr, xor_shr, and_mod, or_mod, xor_mod, and_self, and_le_r}
use lib.Count.{count_trailing_zeros}
use Rattle.sets.specs.States.{has_state}
use Rattle.sets.specs.Tally.{one}
use Rattle.sets.proofs.Cases.{lt_or_le}

-- ---- by digits: the lowest, and the rest

pub has_zero : (s : ℕ) → has_state s 0 ≡ eqb (s % 2) 1
unfolding has_state
has_zero s = rw div-one

pub has_suc : (s q : ℕ) → has_state s (suc q) ≡ has_state (s / 2) q
unfolding has_state
has_suc s q = rw (pow-succ' 2 q, ← div-div-eq-div-mul)

-- a digit as the test has it
pub one_odd : (n : ℕ) → one (eqb (n % 2) 1) ≡ n % 2
one_odd n = go (n % 2) (mod-lt n (omega arith))
  where
    go : (x : ℕ) → x < 2 → one (eqb x 1) ≡ x
    go zero h = refl
    go (suc zero) h = refl
    go (suc (suc x)) h = absurd (omega arith)

-- ---- the operations

two_pos : 0 < 2
two_pos = omega arith

-- an operation on bits, which goes digit by digit, is f on digits: so it is f on the sets
module _ (op : ℕ → ℕ → ℕ) (f : Bool → Bool → Bool)
    (shr : (a b k : ℕ) → op a b / 2 ^ k ≡ op (a / 2 ^ k) (b / 2 ^ k)) (low : (a b k : ℕ) → op a b % 2 ^ k ≡ op (a % 2 ^ k) (b % 2 ^ k))
    (on : (x y : Bool) → eqb (op (one x) (one y)) 1 ≡ f x y) where
  digit : (x y : ℕ) → x < 2 → y < 2 → eqb (op x y) 1 ≡ f (eqb x 1) (eqb y 1)
  digit zero zero hx hy = on false false
  digit zero (suc zero) hx hy = on false true
  digit (suc zero) zero hx hy = on true false
  digit (suc zero) (suc zero) hx hy = on true true
  digit zero (suc (suc y)) hx hy = absurd (omega arith)
  digit (suc zero) (suc (suc y)) hx hy = absurd (omega arith)
  digit (suc (suc x)) y hx hy = absurd (omega arith)

  has_op : (a b q : ℕ) → has_state (op a b) q ≡ f (has_state a q) (has_state b q)
  unfolding has_state
  has_op a b q = rw (shr a b q, low (a / 2 ^ q) (b / 2 ^ q) 1) (digit (a / 2 ^ q % 2) (b / 2 ^ q % 2) (mod-lt _ two_pos) (mod-lt _ two_pos))

pub has_or : (a b q : ℕ) → has_state (bit_or a b) q ≡ (has_state a q || has_state b q)
has_or = has_op bit_or (λ x y. x || y) or_shr or_mod on
  where
    on : (x y : Bool) → eqb (bit_or (one x) (one y)) 1 ≡ (x || y)
    on true true = refl
    on true false = refl
    on false true = refl
    on false false = refl

pub has_and : (a b q : ℕ) → has_state (bit_and a b) q ≡ (has_state a q && has_state b q)
has_and = has_op bit_and (λ x y. x && y) and_shr and_mod on
  where
    on : (x y : Bool) → eqb (bit_and (one x) (one y)) 1 ≡ (x && y)
    on true true = refl
    on true false = refl
    on false true = refl
    on false false = refl

pub has_xor : (a b q : ℕ) → has_state (bit_xor a b) q ≡ cond (has_state b q) (not (has_state a q)) (has_state a q)
has_xor = has_op bit_xor (λ x y. cond y (not x) x) xor_shr xor_mod on
  where
    on : (x y : Bool) → eqb (bit_xor (one x) (one y)) 1 ≡ cond y (not x) x
    on true true = refl
    on true false = refl
    on false true = refl
    on false false = refl

pub has_empty : (q : ℕ) → has_state 0 q ≡ false
unfolding has_state
has_empty q = rw zero-div

-- a set of w states has none from w on
pub has_above : (w s q : ℕ) → s < 2 ^ w → w ≤ q → has_state s q ≡ false
unfolding has_state
has_above w s q h l = rw (div-eq_of_lt (lt_of_lt_of_le h (pow_mono l)))

-- the complement in w digits
flip_odd : (n : ℕ) → eqb (1 - n % 2) 1 ≡ not (eqb (n % 2) 1)
flip_odd n = go (n % 2) (mod-lt n two_pos)
  where
    go : (x : ℕ) → x < 2 → eqb (1 - x) 1 ≡ not (eqb x 1)
    go zero h = refl
    go (suc zero) h = refl
    go (suc (suc x)) h = absurd (omega arith)

pub has_not : (w s q : ℕ) → s < 2 ^ w → q < w → has_state (2 ^ w - 1 - s) q ≡ not (has_state s q)
has_not zero s q h l = absurd (not-suc-le-zero l)
has_not (suc w) s zero h l =
    let e : (2 ^ suc w - 1 - s) % 2 ≡ 1 - s % 2 = omega arith in
    rw (has_zero, has_zero, e) (flip_odd s)
has_not (suc w) s (suc q) h l =
    let e : (2 ^ suc w - 1 - s) / 2 ≡ 2 ^ w - 1 - s / 2 = omega arith in
    let b : s / 2 < 2 ^ w = omega arith in
    rw (has_suc, has_suc, e) (has_not w (s / 2) q b (le_of_suc-le-suc l))

-- one state
pub has_pow : (q p : ℕ) → has_state (2 ^ q) p ≡ eqb p q
has_pow zero zero = has_zero 1
has_pow zero (suc p) = has_suc 1 p ∙ has_empty p ∙ sym (eqb-suc-zero p)
has_pow (suc q) zero =
    let e : 2 ^ suc q % 2 ≡ 0 = omega arith in
    has_zero (2 ^ suc q) ∙ rw (e, eqb-zero-suc q)
has_pow (suc q) (suc p) =
    let e : 2 ^ suc q / 2 ≡ 2 ^ q = omega arith in
    rw (has_suc, e, eqb-suc-suc) (has_pow q p)

-- a set with one more state: s | 1 << q, in w digits
pub has_with : (w s q p : ℕ) → q < w → has_state (bit_or s (1 * 2 ^ q % 2 ^ w)) p ≡ (has_state s p || eqb p q)
has_with w s q p l =
    let e : 1 * 2 ^ q % 2 ^ w ≡ 2 ^ q = rw (one-mul (2 ^ q)) (mod-eq_of_lt (pow-lt l)) in
    rw (e, has_or, has_pow)

-- ---- the lowest state, and the set without it

odd_cases : (n : ℕ) → (n % 2 ≡ 0) ⊎ (n % 2 ≡ 1)
odd_cases n = go (n % 2) (mod-lt n two_pos)
  where
    go : (x : ℕ) → x < 2 → (x ≡ 0) ⊎ (x ≡ 1)
    go zero h = inl refl
    go (suc zero) h = inr refl
    go (suc (suc x)) h = absurd (omega arith)

-- the place of the lowest set digit, by the lowest digit
trailing_even : (k n : ℕ) → n % 2 ≡ 0 → count_trailing_zeros (suc k) n ≡ suc (count_trailing_zeros k (n / 2))
unfolding count_trailing_zeros
trailing_even k n e = rw e

trailing_odd : (k n : ℕ) → n % 2 ≡ 1 → count_trailing_zeros (suc k) n ≡ 0
unfolding count_trailing_zeros
trailing_odd k n e = rw e

-- q is below w, a member, and no lower one is
abbrev pub IsLowest : ℕ → ℕ → ℕ → Type 0
IsLowest w s q = (q < w) × (has_state s q ≡ true) × ((p : ℕ) → p < q → has_state s p ≡ false)

lowest_odd : (w s : ℕ) → s % 2 ≡ 1 → IsLowest (suc w) s (count_trailing_zeros (suc w) s)
lowest_odd w s e = rw (trailing_odd w s e) (omega arith, has_zero s ∙ rw e, λ p l. absurd (not-suc-le-zero l))

lowest_even : (w s : ℕ) → s % 2 ≡ 0 → IsLowest w (s / 2) (count_trailing_zeros w (s / 2)) → IsLowest (suc w) s (count_trailing_zeros (suc w) s)
lowest_even w s e r = rw (trailing_even w s e) (omega arith, has_suc s _ ∙ r.1, below)
  where
    below : (p : ℕ) → p < suc (count_trailing_zeros w (s / 2)) → has_state s p ≡ false
    below zero l = has_zero s ∙ rw e
    below (suc p) l = has_suc s p ∙ r.2 p (le_of_suc-le-suc l)

pub lowest_is : (w s : ℕ) → 0 < s → s < 2 ^ w → IsLowest w s (count_trailing_zeros w s)
lowest_is zero s p h = absurd (omega arith)
lowest_is (suc w) s p h =
    ⊎_elim (λ e. lowest_even w s e (lowest_is w (s / 2) (omega arith) (omega arith))) (lowest_odd w s) (odd_cases s)

-- a set without its lowest state: s & (s - 1)
clear_zero : (w s : ℕ) → 0 < s → has_state (bit_and s (s - 1)) 0 ≡ (has_state s 0 && not (eqb 0 (count_trailing_zeros (suc w) s)))
clear_zero w s p = rw (has_and s (s - 1) 0, has_zero, has_zero) (⊎_elim even odd (odd_cases s))
  where
    even : s % 2 ≡ 0 → (eqb (s % 2) 1 && eqb ((s - 1) % 2) 1) ≡ (eqb (s % 2) 1 && not (eqb 0 (count_trailing_zeros (suc w) s)))
    even e = rw e

    odd : s % 2 ≡ 1 → (eqb (s % 2) 1 && eqb ((s - 1) % 2) 1) ≡ (eqb (s % 2) 1 && not (eqb 0 (count_trailing_zeros (suc w) s)))
    odd e =
        let e' : (s - 1) % 2 ≡ 0 = omega arith in
        rw (e, e', trailing_odd w s e)

half_and : (a b : ℕ) → bit_and a b / 2 ≡ bit_and (a / 2) (b / 2)
half_and a b = and_shr a b 1

pub has_clear : (w s p : ℕ) → 0 < s → s < 2 ^ w → has_state (bit_and s (s - 1)) p ≡ (has_state s p && not (eqb p (count_trailing_zeros w s)))
has_clear zero s p h l = absurd (omega arith)
has_clear (suc w) s zero h l = clear_zero w s h
has_clear (suc w) s (suc p) h l = rw (has_suc, has_suc, half_and) (⊎_elim (λ e. even e (has_clear w (s / 2) p (omega arith) (omega arith))) odd (odd_cases s))
  where
    odd : s % 2 ≡ 1 → has_state (bit_and (s / 2) ((s - 1) / 2)) p ≡ (has_state (s / 2) p && not (eqb (suc p) (count_trailing_zeros (suc w) s)))
    odd e =
        let e' : (s - 1) / 2 ≡ s / 2 = omega arith in
        rw (e', and_self, trailing_odd w s e, eqb-suc-zero, and-true)

    even : s % 2 ≡ 0 → has_state (bit_and (s / 2) (s / 2 - 1)) p ≡ (has_state (s / 2) p && not (eqb p (count_trailing_zeros w (s / 2))))
        → has_state (bit_and (s / 2) ((s - 1) / 2)) p ≡ (has_state (s / 2) p && not (eqb (suc p) (count_trailing_zeros (suc w) s)))
    even e ih =
        let e' : (s - 1) / 2 ≡ s / 2 - 1 = omega arith in
        rw (e', trailing_even w s e, eqb-suc-suc) ih

pub clear_lt : (s : ℕ) → 0 < s → bit_and s (s - 1) < s
clear_lt s h = omega (arith, and_le_r s (s - 1))

-- ---- a set less another: a & !b, in w digits

pub has_minus : (w a b q : ℕ) → a < 2 ^ w → b < 2 ^ w → has_state (bit_and a (2 ^ w - 1 - b)) q ≡ (has_state a q && not (has_state b q))
has_minus w a b q ha hb = has_and a (2 ^ w - 1 - b) q ∙ ⊎_elim inside outside (lt_or_le q w)
  where
    inside : q < w → (has_state a q && has_state (2 ^ w - 1 - b) q) ≡ (has_state a q && not (has_state b q))
    inside l = rw (has_not w b q hb l)

    outside : w ≤ q → (has_state a q && has_state (2 ^ w - 1 - b) q) ≡ (has_state a q && not (has_state b q))
    outside l = rw (has_above w a q ha l)

pub has_below : (w s q : ℕ) → s < 2 ^ w → has_state s q ≡ true → q < w
has_below w s q h m = ⊎_elim (λ l. l) (λ l. absurd (true≢false (sym m ∙ has_above w s q h l))) (lt_or_le q w)

-- the states below w: s % 2 ^ w
pub has_low : (w s q : ℕ) → q < w → has_state (s % 2 ^ w) q ≡ has_state s q
unfolding has_state
has_low w s q l =
    let e : w ≡ (w - q - 1 + 1) + q = omega arith in
    let a : s % 2 ^ w / 2 ^ q ≡ s / 2 ^ q % 2 ^ (w - q - 1 + 1) = ap (λ (k : ℕ). s % 2 ^ k / 2 ^ q) e ∙ field s (w - q - 1 + 1) q in
    rw a (ap (λ (d : ℕ). eqb d 1) (mod-mod-pow (s / 2 ^ q) (w - q - 1) 1))

-- ---- two sets with the same states are one number

pub has_ext : (w a b : ℕ) → a < 2 ^ w → b < 2 ^ w → ((q : ℕ) → has_state a q ≡ has_state b q) → a ≡ b
has_ext zero a b ha hb h = omega arith
has_ext (suc w) a b ha hb h =
    let r : a / 2 ≡ b / 2 = has_ext w (a / 2) (b / 2) (omega arith) (omega arith) (λ q. sym (has_suc a q) ∙ h (suc q) ∙ has_suc b q) in
    let o : a % 2 ≡ b % 2 = sym (one_odd a) ∙ ap one (sym (has_zero a) ∙ h 0 ∙ has_zero b) ∙ one_odd b in
    omega arith
