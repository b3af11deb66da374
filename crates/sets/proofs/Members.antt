-- The laws of `members`, the numbers of a range for which a test holds, ascending; and of a set's states as such a list.
use mathlib.Core.Path.{◌≡◌, refl, sym, ap, ap₂, ◌∙◌}
use mathlib.Core.Logic.{◌⊎◌, inl, inr, ⊎_elim}
use mathlib.Core.Bool.{Bool, true, false, not, ◌&&◌, and-true}
use mathlib.Core.List.Memᴰ
use mathlib.Core.List.{List, [], ◌∷◌, Memᴰ}
use Prim.Native.Nat.{ℕ, zero, suc, ◌+◌, ◌-◌, ◌/◌, ◌%◌, ◌^◌, ◌≤◌, ◌<◌}
use native.Mathlib.Nat.{le_refl, eq-or-lt_of_le, mod-lt}
use native.Mathlib.Omega.{arith}
use borrow.Author.Tests.{eq-eqb, ne_eqb}
use lib.Dec.{eqb}
use lib.Bits.{bit_and}
use lib.Pow.{pow_pos}
use lib.Count.{count_trailing_zeros, ones, ones_step}
use lib.ListN.{length, get_or}
use Rattle.sets.specs.States.{has_state, keep, members}
use Rattle.sets.proofs.StateSets.{has_zero, has_suc, has_empty, has_clear, has_low, lowest_is, one_odd}
use Rattle.sets.specs.Tally.{one}

-- two tests that agree on the range
pub members_same : (p p' : ℕ → Bool) (at d : ℕ) → ((q : ℕ) → at ≤ q → q < at + d → p q ≡ p' q) → members p at d ≡ members p' at d
unfolding members
members_same p p' at zero h = refl
members_same p p' at (suc d) h =
    ap₂ (λ (b : Bool) (l : List ℕ). keep b at l) (h at (le_refl at) (omega arith))
    (members_same p p' (suc at) d (λ q l u. h q (omega arith) (omega arith)))

pub members_none : (p : ℕ → Bool) (at d : ℕ) → ((q : ℕ) → at ≤ q → q < at + d → p q ≡ false) → members p at d ≡ []
unfolding members
members_none p at zero h = refl
members_none p at (suc d) h = rw (h at (le_refl at) (omega arith)) (members_none p (suc at) d (λ q l u. h q (omega arith) (omega arith)))

-- the first member, and the rest
module _ (p p' : ℕ → Bool) (q : ℕ) (m : p q ≡ true) (e : (x : ℕ) → p' x ≡ (p x && not (eqb x q))) where
  pub drops : p' q ≡ false
  drops = e q ∙ rw (eq-eqb q q refl, m)

  pub keeps : (x : ℕ) → (x ≡ q → ⊥) → p' x ≡ p x
  keeps x n = e x ∙ rw (ne_eqb x q n, and-true)

  first_here : (d : ℕ) → members p q (suc d) ≡ q ∷ members p' q (suc d)
  unfolding members
  first_here d = rw (m, drops) (ap (λ (l : List ℕ). q ∷ l) (members_same p p' (suc q) d (λ x l u. sym (keeps x (omega arith)))))

  first_later : (at d : ℕ) → at < q → p at ≡ false → members p (suc at) d ≡ q ∷ members p' (suc at) d → members p at (suc d) ≡ q ∷ members p' at (suc d)
  unfolding members
  first_later at d l f ih = rw (keeps at (omega arith), f) ih

  pub members_first : (at d : ℕ) → at ≤ q → q < at + d → ((x : ℕ) → at ≤ x → x < q → p x ≡ false) → members p at d ≡ q ∷ members p' at d
  members_first at zero l u b = absurd (omega arith)
  members_first at (suc d) l u b =
      ⊎_elim (λ (h : at ≡ q). rw h (first_here d))
      (λ (h : at < q). first_later at d h (b at (le_refl at) h) (members_first (suc at) d h (omega arith) (λ x g k. b x (omega arith) k)))
      (eq-or-lt_of_le l)

-- the list of a set: nothing for the empty set, else its lowest state and then the list of the set without it
pub states_empty : (w : ℕ) → members (has_state 0) 0 w ≡ []
states_empty w = members_none (has_state 0) 0 w (λ q l u. has_empty q)

pub states_step : (w s : ℕ) → 0 < s → s < 2 ^ w → members (has_state s) 0 w ≡ count_trailing_zeros w s ∷ members (has_state (bit_and s (s - 1))) 0 w
states_step w s h l =
    let r = lowest_is w s h l in
    members_first (has_state s) (has_state (bit_and s (s - 1))) (count_trailing_zeros w s) r.1 (λ x. has_clear w s x h l)
    0 w (omega arith) (omega arith) (λ x g k. r.2 x k)

-- the length of a set's list is the count of its set digits
length_keep : (b : Bool) (q : ℕ) (l : List ℕ) → length (keep b q l) ≡ one b + length l
length_keep true q l = omega arith
length_keep false q l = omega arith

one_le_one : (b : Bool) → one b ≤ 1
one_le_one true = le_refl 1
one_le_one false = omega arith

length_shift : (p p' : ℕ → Bool) (at d : ℕ) → ((q : ℕ) → p (suc q) ≡ p' q) → length (members p (suc at) d) ≡ length (members p' at d)
unfolding members
length_shift p p' at zero h = refl
length_shift p p' at (suc d) h = rw (length_keep, length_keep, h at, length_shift p p' (suc at) d h)

pub members_length : (p : ℕ → Bool) (at d : ℕ) → length (members p at d) ≤ d
unfolding members
members_length p at zero = le_refl 0
members_length p at (suc d) = omega (arith, length_keep (p at) at (members p (suc at) d), one_le_one (p at), members_length p (suc at) d)

pub length_states : (w s : ℕ) → s < 2 ^ w → length (members (has_state s) 0 w) ≡ ones s
unfolding members ones
length_states zero s h =
    let e : s ≡ 0 = omega arith in
    rw e
length_states (suc w) s h =
    length_keep (has_state s 0) 0 (members (has_state s) 1 w)
    ∙ rw (has_zero, one_odd, length_shift (has_state s) (has_state (s / 2)) 0 w (has_suc s), length_states w (s / 2) (omega arith), ← ones_step s)

-- and so is the length of the list of those below q
pub length_below : (s q : ℕ) → length (members (has_state s) 0 q) ≡ ones (s % 2 ^ q)
length_below s q =
    ap length (members_same (has_state s) (has_state (s % 2 ^ q)) 0 q (λ p l u. sym (has_low q s p (omega arith))))
    ∙ length_states q (s % 2 ^ q) (mod-lt s (pow_pos q))

-- a number stands in the list where the test holds of it, and only there
keep_in : (b : Bool) (x : ℕ) {q : ℕ} {l : List ℕ} → Memᴰ q l → Memᴰ q (keep b x l)
keep_in true x m = Memᴰ.tail m
keep_in false x m = m

keep_cases : (b : Bool) (x : ℕ) {q : ℕ} (l : List ℕ) → Memᴰ q (keep b x l) → ((q ≡ x) × (b ≡ true)) ⊎ Memᴰ q l
keep_cases true x l m = ⊎_elim (λ e. inl (e, refl)) (λ r. inr r) (Memᴰ.cases_cons m)
keep_cases false x l m = inr m

pub members_in : (p : ℕ → Bool) (at d q : ℕ) → at ≤ q → q < at + d → p q ≡ true → Memᴰ q (members p at d)
unfolding members
members_in p at zero q l u m = absurd (omega arith)
members_in p at (suc d) q l u m =
    ⊎_elim (λ (h : at ≡ q). rw (h, m) (Memᴰ.head refl))
    (λ (h : at < q). keep_in (p at) at (members_in p (suc at) d q h (omega arith) m))
    (eq-or-lt_of_le l)

pub in_members : (p : ℕ → Bool) (at d q : ℕ) → Memᴰ q (members p at d) → (at ≤ q) × (q < at + d) × (p q ≡ true)
unfolding members
in_members p at zero q m = absurd (Memᴰ.not-nil m)
in_members p at (suc d) q m =
    ⊎_elim (λ (h : (q ≡ at) × (p at ≡ true)). (omega arith, omega arith, rw h.0 h.1))
    (λ r. let i = in_members p (suc at) d q r in (omega arith, omega arith, i.2))
    (keep_cases (p at) at (members p (suc at) d) m)

-- Ranks: how many members a number has below it

-- the rank of a member is its position
pub members_at : (p : ℕ → Bool) (at d x : ℕ) → x < d → p (at + x) ≡ true
    → (length (members p at x) < length (members p at d)) × (get_or (members p at d) (length (members p at x)) 0 ≡ at + x)
unfolding members
members_at p at zero x l m = absurd (omega arith)
members_at p at (suc d) zero l m = let e : at + 0 ≡ at = omega arith in let t = rw e at m in rw (t, e) (omega arith, refl)
members_at p at (suc d) (suc x) l m =
    let e : at + suc x ≡ suc at + x = omega arith in
    rw e (later (p at) (members_at p (suc at) d x (omega arith) (rw e at m)))
  where
    later : (b : Bool) → (length (members p (suc at) x) < length (members p (suc at) d)) × (get_or (members p (suc at) d) (length (members p (suc at) x)) 0 ≡ suc at + x)
        → (length (keep b at (members p (suc at) x)) < length (keep b at (members p (suc at) d)))
        × (get_or (keep b at (members p (suc at) d)) (length (keep b at (members p (suc at) x))) 0 ≡ suc at + x)
    later true (l, g) = (omega arith, g)
    later false (l, g) = (l, g)

-- a position is the rank of the member there
pub record RankAt (p : ℕ → Bool) (at d : ℕ) (xs : List ℕ) (k x : ℕ) : Type 0 where
  pub below : x < d
  pub passes : p (at + x) ≡ true
  pub is : get_or xs k 0 ≡ at + x
  pub rank : length (members p at x) ≡ k

pub member_rank : (p : ℕ → Bool) (at d k : ℕ) → k < length (members p at d) → (x : ℕ) × RankAt p at d (members p at d) k x
unfolding members
member_rank p at zero k l = absurd (omega arith)
member_rank p at (suc d) k l = by (p at) refl k l (member_rank p (suc at) d)
  where
    by : (b : Bool) → p at ≡ b → (k : ℕ) → k < length (keep b at (members p (suc at) d))
        → ((k : ℕ) → k < length (members p (suc at) d) → (x : ℕ) × RankAt p (suc at) d (members p (suc at) d) k x)
        → (x : ℕ) × RankAt p at (suc d) (keep b at (members p (suc at) d)) k x
    by true e zero l f = let z : at + 0 ≡ at = omega arith in (0, record { below = omega arith; passes = rw z e; is = rw z refl; rank = refl })
    by true e (suc k) l f =
        let (x, r) = f k (omega arith) in
        let z : at + suc x ≡ suc at + x = omega arith in
        (suc x, record { below = omega (arith, r.below); passes = rw z r.passes; is = rw z r.is; rank = rw (e, r.rank) })
    by false e k l f =
        let (x, r) = f k l in
        let z : at + suc x ≡ suc at + x = omega arith in
        (suc x, record { below = omega (arith, r.below); passes = rw z r.passes; is = rw z r.is; rank = rw (e, r.rank) })
