-- The laws of a row of sixteen numbers: what a loop over its states reads and writes, and whether it has a number. Assumes nothing.
use mathlib.Core.Path.{◌≡◌, refl, sym, ap, subst, ◌∙◌}
use mathlib.Core.Logic.{◌↔◌, ◌⊎◌, inl, inr, ⊎_elim}
use mathlib.Core.Bool.{Bool, true, false, cond, not, ◌&&◌, ◌||◌, and-false, or-true, or-false}
use mathlib.Core.List.{List}
use Prim.Native.Nat.{ℕ, ◌+◌, ◌-◌, ◌*◌, ◌^◌, ◌≤◌, ◌<◌}
use native.Mathlib.Nat.{pos_of_ne-zero}
use native.Mathlib.Omega.{arith}
use borrow.Author.Tests.{eq-eqb, eqb-true, lt-ltb, le-ltb}
use lib.Bits.{bit_and, and_le_r}
use lib.Count.{count_trailing_zeros}
use lib.Dec.{T, eqb, ltb}
use lib.ListN.{length}
use Rattle.sets.specs.Sets.{any}
use Rattle.sets.specs.States.{has_state, members, states_of}
use Rattle.sets.specs.Table.{half, put_half}
use Rattle.sets.proofs.Tests.{either, is_true, passed, same_test, or_iff, eq_iff, not_iff}
use Rattle.sets.proofs.Cases.{clash, and_left, and_right, and_intro, eq_or_ne, lt_or_le, or_swap}
use Rattle.sets.proofs.Filter.{any_iff}
use Rattle.sets.proofs.Members.{members_in, in_members}
use Rattle.sets.proofs.StateSets.{has_and, has_empty, lowest_is}
use Rattle.sets.proofs.Tables.{length_put, half_same, half_other}
use Rattle.files.specs.Limits.{shown_words, work_bytes}
use Rattle.walk_rows.specs.Distances.{numbered, Hit}

-- ---- sets of states

-- two sets meet just if what is common to them is not empty
pub meets : (a b : ℕ) → b < 2 ^ 16 → not (eqb (bit_and a b) 0) ≡ any (has_state b) (states_of a)
meets a b small = same_test down up
  where
    down : T (not (eqb (bit_and a b) 0)) → T (any (has_state b) (states_of a))
    down t =
        let q = count_trailing_zeros 16 (bit_and a b) in
        let (l, i, _) = lowest_is 16 (bit_and a b) (pos_of_ne-zero (λ z. (not_iff (eqb (bit_and a b) 0)).0 t ((eq_iff (bit_and a b) 0).1 z))) (omega (arith, and_le_r a b)) in
        let g = sym (has_and a b q) ∙ i in
        (any_iff (has_state b) (states_of a)).1
        (q, members_in (has_state a) 0 16 q (omega arith) l (and_left (has_state a q) (has_state b q) g), passed (and_right (has_state a q) (has_state b q) g))

    up : T (any (has_state b) (states_of a)) → T (not (eqb (bit_and a b) 0))
    up t =
        let (q, i, j) = (any_iff (has_state b) (states_of a)).0 t in
        let g : has_state (bit_and a b) q ≡ true = has_and a b q ∙ and_intro _ _ (in_members (has_state a) 0 16 q i).2 (is_true (has_state b q) j) in
        (not_iff (eqb (bit_and a b) 0)).1 (λ z. clash (ap (λ r. has_state r q) (sym ((eq_iff (bit_and a b) 0).0 z)) ∙ g) (has_empty q))

-- r has the states that pass a test, and no others
pub gathered : (test : ℕ → Bool) (r : ℕ) → ((q : ℕ) → q < 16 → has_state r q ≡ test q) → ((q : ℕ) → 16 ≤ q → has_state r q ≡ false)
    → (p : ℕ) → has_state r p ≡ (ltb p 16 && test p)
gathered test r f o p = ⊎_elim (λ (l : p < 16). rw (f p l, lt-ltb p 16 l)) (λ (l : 16 ≤ p). rw (o p l, le-ltb p 16 l)) (lt_or_le p 16)

-- ---- some state below n passes a test

abbrev some : (ℕ → Bool) → ℕ → Bool
some test n = any test (members (λ q. true) 0 n)

some_iff : (test : ℕ → Bool) (n : ℕ) → T (some test n) ↔ ((q : ℕ) × (q < n) × T (test q))
some_iff test n = (
  λ t. let (q, m, u) = (any_iff test (members (λ q. true) 0 n)).0 t in (q, omega (arith, (in_members (λ q. true) 0 n q m).1), u),
  λ (q, l, u). (any_iff test (members (λ q. true) 0 n)).1 (q, members_in (λ q. true) 0 n q (omega arith) (omega arith) refl, u),
)

-- tests that agree below n
some_agree : (a b : ℕ → Bool) (n : ℕ) → ((q : ℕ) → q < n → a q ≡ b q) → some a n ≡ some b n
some_agree a b n h = same_test
    (λ t. let (q, l, u) = (some_iff a n).0 t in (some_iff b n).1 (q, l, subst T (h q l) u))
    (λ t. let (q, l, u) = (some_iff b n).0 t in (some_iff a n).1 (q, l, subst T (sym (h q l)) u))

some_more : (test : ℕ → Bool) (n : ℕ) → some test (n + 1) ≡ (some test n || test n)
some_more test n = same_test down up
  where
    down : T (some test (n + 1)) → T (some test n || test n)
    down t =
        let (q, l, u) = (some_iff test (n + 1)).0 t in
        (or_iff (some test n) (test n)).1
        (⊎_elim (λ (e : q ≡ n). inr (subst (λ q. T (test q)) e u)) (λ d. inl ((some_iff test n).1 (q, omega (arith, d), u))) (eq_or_ne q n))

    up : T (some test n || test n) → T (some test (n + 1))
    up t = ⊎_elim (λ s. let (q, l, u) = (some_iff test n).0 s in (some_iff test (n + 1)).1 (q, omega arith, u)) (λ u. (some_iff test (n + 1)).1 (n, omega arith, u))
        ((or_iff (some test n) (test n)).0 t)

-- ---- a row that is hit

-- the test whether a state has the number v
abbrev is : List ℕ → ℕ → ℕ → ℕ → Bool
is w i v p = eqb (half w 0 (16 * i + p)) v

-- a store that is made where b says so
put_at : (w : List ℕ) (at v : ℕ) (b : Bool) → 2 * at + 1 < length w → half (cond b (put_half w 0 at v) w) 0 at ≡ cond b v (half w 0 at)
put_at w at v true l = half_same w 0 at v (omega arith)
put_at w at v false l = refl

put_other : (w : List ℕ) (at v : ℕ) (b : Bool) (m : ℕ) → (m ≡ at → ⊥) → half (cond b (put_half w 0 at v) w) 0 m ≡ half w 0 m
put_other w at v true m n = half_other w 0 at v m n
put_other w at v false m n = refl

put_length : (w : List ℕ) (at v : ℕ) (b : Bool) → length (cond b (put_half w 0 at v) w) ≡ length w
put_length w at v true = length_put w 0 at v
put_length w at v false = refl

-- the states below q were hit; `old` tells whether one of them had the number v, and `new` whether one got it
pub record Spreading (hits : ℕ → Bool) (i v q : ℕ) (w₀ w : List ℕ) (old new : Bool) : Type 0 where
  pub hit : Hit hits i q v w₀ w
  pub was : old ≡ some (is w₀ i v) q
  pub now : (old || new) ≡ some (is w i v) q

pub spread_none : (hits : ℕ → Bool) (i v : ℕ) (w : List ℕ) → Spreading hits i v 0 w w false false
unfolding members
spread_none hits i v w = record {
  hit = record { row = λ p l. absurd (omega arith); rest = λ m o. refl; same = refl };
  was = refl;
  now = refl;
}

module _ {hits : ℕ → Bool} {i v q : ℕ} {w₀ w : List ℕ} {old new : Bool} (f : Spreading hits i v q w₀ w old new) where
  module _ (w' : List ℕ) {n : ℕ} {h : Bool} (small : i < shown_words) (long : work_bytes ≤ length w) (l : q < 16) (read : n ≡ half w 0 (16 * i + q))
      (is-hit : h ≡ (hits q && eqb n 0)) (put : w' ≡ cond h (put_half w 0 (16 * i + q) v) w) where
    here : half w' 0 (16 * i + q) ≡ cond h v n
    here = rw (put, read) (put_at w (16 * i + q) v h (omega arith))

    other : (m : ℕ) → (m ≡ 16 * i + q → ⊥) → half w' 0 m ≡ half w 0 m
    other m d = rw put (put_other w (16 * i + q) v h m d)

    before : n ≡ half w₀ 0 (16 * i + q)
    before = read ∙ f.hit.rest (16 * i + q) (inr (omega arith))

    spread_hit : Hit hits i (q + 1) v w₀ w'
    spread_hit = record {
      row = λ p k. ⊎_elim
          (λ (z : p ≡ q). rw z (here ∙ rw (is-hit, before)))
          (λ d. other (16 * i + p) (λ z. d (omega arith)) ∙ f.hit.row p (omega (arith, d)))
          (eq_or_ne p q);
      rest = λ m o. other m (λ z. ⊎_elim (λ k. omega arith) (λ k. omega arith) o) ∙ f.hit.rest m (⊎_elim (λ k. inl k) (λ k. inr (omega arith)) o);
      same = ap length put ∙ put_length w (16 * i + q) v h ∙ f.hit.same;
    }

    got : (h : Bool) → eqb (cond h v n) v ≡ (eqb n v || h)
    got true = eq-eqb v v refl ∙ sym (or-true (eqb n v))
    got false = sym (or-false (eqb n v))

    pub spread_more : Spreading hits i v (q + 1) w₀ w' (old || eqb n v) (new || h)
    spread_more = record {
      hit = spread_hit;
      was = rw (some_more (is w₀ i v) q, ← f.was, ← before);
      now =
          or_swap old (eqb n v) new h
          ∙ rw (f.now, some_more (is w' i v) q, here, got h, some_agree (is w' i v) (is w i v) q (λ p k. ap (λ x. eqb x v) (other (16 * i + p) (λ z. omega arith))));
    }

  pub spread_tells : q ≡ 16 → (new && not old) ≡ (numbered w i v && not (numbered w₀ i v))
  unfolding numbered
  spread_tells e =
      left old new ∙ rw (f.now, f.was, e)
    where
      left : (a b : Bool) → (b && not a) ≡ ((a || b) && not a)
      left true b = and-false b
      left false b = refl

-- ---- whether a row has a number

pub numbered_iff : (w : List ℕ) (i v : ℕ) → (numbered w i v ≡ true) ↔ ((q : ℕ) × (q < 16) × (half w 0 (16 * i + q) ≡ v))
unfolding numbered
numbered_iff w i v = (
  λ e. let (q, l, t) = (some_iff (is w i v) 16).0 (passed e) in (q, l, (eq_iff (half w 0 (16 * i + q)) v).0 t),
  λ (q, l, e). is_true (some (is w i v) 16) ((some_iff (is w i v) 16).1 (q, l, (eq_iff (half w 0 (16 * i + q)) v).1 e)),
)

-- rows with the same numbers
pub numbered_same : (w w' : List ℕ) (i v : ℕ) → ((q : ℕ) → q < 16 → half w' 0 (16 * i + q) ≡ half w 0 (16 * i + q)) → numbered w' i v ≡ numbered w i v
unfolding numbered
numbered_same w w' i v h = some_agree (is w' i v) (is w i v) 16 (λ q l. ap (λ x. eqb x v) (h q l))

-- a number of w that is the same in w', or v where it was 0
abbrev Grown : ℕ → List ℕ → List ℕ → ℕ → Type 0
Grown v w w' m = (half w' 0 m ≡ half w 0 m) ⊎ ((half w 0 m ≡ 0) × (half w' 0 m ≡ v))

-- what a row that is hit leaves
module _ {hits : ℕ → Bool} {i v : ℕ} {w w' : List ℕ} (f : Hit hits i 16 v w w') where
  -- another row
  pub hit_apart : (j q : ℕ) → (j ≡ i → ⊥) → q < 16 → half w' 0 (16 * j + q) ≡ half w 0 (16 * j + q)
  hit_apart j q d l = f.rest (16 * j + q) (⊎_elim (λ (k : j < i). inl (omega arith)) (λ (k : i ≤ j). inr (omega (arith, d))) (lt_or_le j i))

  pub hit_grown : (m : ℕ) → Grown v w w' m
  hit_grown m = ⊎_elim
      (λ (k : m < 16 * i). inl (f.rest m (inl k)))
      (λ (k : 16 * i ≤ m). ⊎_elim
      (λ (b : m < 16 * i + 16). let e : 16 * i + (m - 16 * i) ≡ m = omega arith in subst (Grown v w w') e (within (m - 16 * i) (omega arith)))
      (λ (b : 16 * i + 16 ≤ m). inl (f.rest m (inr b)))
      (lt_or_le m (16 * i + 16)))
      (lt_or_le m (16 * i))
    where
      within : (p : ℕ) → p < 16 → Grown v w w' (16 * i + p)
      within p l = elim (either (hits p && is w i 0 p)) [
        | inl e ↦ inr (eqb-true (half w 0 (16 * i + p)) 0 (and_right (hits p) (is w i 0 p) e), f.row p l ∙ rw e)
        | inr e ↦ inl (f.row p l ∙ rw e)
      ]

  -- a number other than 0 stays
  pub hit_stays : (m : ℕ) → 0 < half w 0 m → half w' 0 m ≡ half w 0 m
  hit_stays m p = ⊎_elim (λ e. e) (λ (z, _). absurd (omega arith)) (hit_grown m)

  pub numbered_apart : (j u : ℕ) → (j ≡ i → ⊥) → numbered w' j u ≡ numbered w j u
  numbered_apart j u d = numbered_same w w' j u (λ q l. hit_apart j q d l)

  -- what rows have, they keep
  pub numbered_stays : (j u : ℕ) → 0 < u → numbered w j u ≡ true → numbered w' j u ≡ true
  numbered_stays j u p e =
      let (q, l, z) = (numbered_iff w j u).0 e in
      (numbered_iff w' j u).1 (q, l, hit_stays (16 * j + q) (omega arith) ∙ z)

  -- and of other numbers than v they get none
  pub numbered_else : (j u : ℕ) → 0 < u → (u ≡ v → ⊥) → numbered w' j u ≡ numbered w j u
  numbered_else j u p d = same_test
      (λ t.
      let (q, l, z) = (numbered_iff w' j u).0 (is_true (numbered w' j u) t) in
      passed ((numbered_iff w j u).1 (q, l, ⊎_elim (λ e. sym e ∙ z) (λ (_, e). absurd (d (sym z ∙ e))) (hit_grown (16 * j + q)))))
      (λ t. passed (numbered_stays j u p (is_true (numbered w j u) t)))
