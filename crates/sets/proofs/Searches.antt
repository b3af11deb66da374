-- A search by pending pairs, over any steps between pairs (i, q) of a place and a state: what holds between its turns, and what a turn does
-- to it. A turn takes all pending states of one place and enters what they step to. It speaks of tests, and of no bytes. Assumes nothing.
use mathlib.Core.Path.{◌≡◌, refl, sym, ap, subst, ◌∙◌}
use mathlib.Core.Logic.{◌⊎◌, ⊎_elim, ◌↔◌}
use mathlib.Core.Bool.{Bool, true, false, not, ◌&&◌, ◌||◌, and-false}
use Prim.Native.Nat.{ℕ, ◌+◌, ◌*◌, ◌/◌, ◌%◌, ◌<◌}
use native.Mathlib.Omega.{arith}
use Rattle.sets.specs.Tally.{tally}
use Rattle.sets.proofs.Cases.{eq_or_ne, or_elim, and_left, and_right, not_elim, not_known, not_mono, clash}
use Rattle.sets.proofs.Tallies.{tally_lt}
use Rattle.sets.proofs.Tests.{either}

-- what some number of steps from a seed comes to
pub data Comes (Seed : ℕ → ℕ → Type 0) (Step : ℕ → ℕ → ℕ → ℕ → Type 0) : ℕ → ℕ → Type 0 where
  seed : {i q : ℕ} → Seed i q → Comes Seed Step i q
  step : {i q j p : ℕ} → Comes Seed Step i q → Step i q j p → Comes Seed Step j p

-- by the same steps as far as one comes, from the same seeds
pub comes_map : {S S' : ℕ → ℕ → Type 0} {E E' : ℕ → ℕ → ℕ → ℕ → Type 0} → ((i q : ℕ) → S i q → S' i q)
    → ((i q j p : ℕ) → E i q j p → E' i q j p) → {i q : ℕ} → Comes S E i q → Comes S' E' i q
comes_map h g (seed {i} {q} s) = seed (h i q s)
comes_map h g (step {i} {q} {j} {p} r t) = step (comes_map h g r) (g i q j p t)

-- a pair of the n places that was marked
abbrev pub Marked : ℕ → (ℕ → ℕ → Bool) → ℕ → ℕ → Type 0
Marked n reached i q = (i < n) × (reached i q ≡ true)

-- what holds between two turns: the pairs reached hold the seeds, are come to, and those of them that are not pending have all their steps reached
pub record Searching (n : ℕ) (Step : ℕ → ℕ → ℕ → ℕ → Type 0) (marked reached pending : ℕ → ℕ → Bool) : Type 0 where
  pub seeds : (j q : ℕ) → j < n → marked j q ≡ true → reached j q ≡ true
  pub sound : (j q : ℕ) → j < n → reached j q ≡ true → Comes (Marked n marked) Step j q
  pub within : (j q : ℕ) → j < n → pending j q ≡ true → reached j q ≡ true
  pub closed : (j q k p : ℕ) → j < n → reached j q ≡ true → pending j q ≡ false → Step j q k p → reached k p ≡ true

-- where it begins: what is reached is pending, if it has any step
pub search_start : (n : ℕ) (Step : ℕ → ℕ → ℕ → ℕ → Type 0) (reached pending : ℕ → ℕ → Bool)
    → ((j q : ℕ) → j < n → pending j q ≡ true → reached j q ≡ true)
    → ((j q k p : ℕ) → j < n → reached j q ≡ true → Step j q k p → pending j q ≡ true)
    → Searching n Step reached reached pending
search_start n Step reached pending h g =
    record {
      seeds = λ j q l m. m;
      sound = λ j q l m. seed (l, m);
      within = h;
      closed = λ j q k p l m f s. absurd (clash (g j q k p l m s) f);
    }

-- where it ends: nothing is pending
module _ (n : ℕ) (Step : ℕ → ℕ → ℕ → ℕ → Type 0) (marked reached pending : ℕ → ℕ → Bool) (inside : (i q j p : ℕ) → i < n → Step i q j p → j < n)
    (s : Searching n Step marked reached pending) (none : (i q : ℕ) → i < n → pending i q ≡ false) where
  reached_all : {i q : ℕ} → Comes (Marked n marked) Step i q → (i < n) × (reached i q ≡ true)
  reached_all (seed {i} {q} h) = (h.0, s.seeds i q h.0 h.1)
  reached_all (step {i} {q} {j} {p} r t) =
      let b = reached_all r in
      (inside i q j p b.0 t, s.closed i q j p b.0 b.1 (none i q b.0) t)

  pub search_end : (i q : ℕ) → i < n → (reached i q ≡ true) ↔ Comes (Marked n marked) Step i q
  search_end i q l = (s.sound i q l, λ r. (reached_all r).1)

-- ---- a turn

-- a pair that is not open was expanded
abbrev pub done : (ℕ → ℕ → Bool) → (ℕ → ℕ → Bool) → ℕ → ℕ → Bool
done reached pending j q = reached j q && not (pending j q)

abbrev pub is_open : (ℕ → ℕ → Bool) → (ℕ → ℕ → Bool) → ℕ → Bool
is_open reached pending k = not (done reached pending (k / 16) (k % 16))

-- how many pairs of the n places are open
abbrev pub open_in : ℕ → (ℕ → ℕ → Bool) → (ℕ → ℕ → Bool) → ℕ
open_in n reached pending = tally (is_open reached pending) (16 * n)

quiet : (a a' b b' x : Bool) → b' ≡ (b || (x && (a' && not a))) → b ≡ false → a ≡ true → b' ≡ false
quiet a a' b b' true e f h = rw (e, f, h) (and-false a')
quiet a a' b b' false e f h = rw (e, f)

-- what is reached and not pending, where what was gained is pending, was so before
pub done_before : (a a' b b' : Bool) → b' ≡ (b || (a' && not a)) → b' ≡ false → a' ≡ true → (a ≡ true) × (b ≡ false)
done_before true a' true b' e f h = absurd (clash e f)
done_before true a' false b' e f h = (refl, refl)
done_before false a' true b' e f h = absurd (clash e f)
done_before false a' false b' e f h = absurd (clash (e ∙ rw h) f)

-- a turn at place i: its pending states are taken, which leaves p₁; what they step to is entered; and what a place that expands gained is pending
pub record Turn (n : ℕ) (Step : ℕ → ℕ → ℕ → ℕ → Type 0) (expands : ℕ → Bool) (i : ℕ) (r p p₁ r₂ p₂ : ℕ → ℕ → Bool) : Type 0 where
  pub here : (q : ℕ) → p₁ i q ≡ false
  pub there : (j q : ℕ) → j < n → (j ≡ i → ⊥) → p₁ j q ≡ p j q
  pub kept : (j q : ℕ) → j < n → r j q ≡ true → r₂ j q ≡ true
  pub fresh : (j q : ℕ) → j < n → p₂ j q ≡ (p₁ j q || (expands j && (r₂ j q && not (r j q))))
  pub only : (j x : ℕ) → j < n → r₂ j x ≡ true → (r j x ≡ true) ⊎ ((q : ℕ) × (p i q ≡ true) × Step i q j x)
  pub all : (q j x : ℕ) → j < n → p i q ≡ true → Step i q j x → r₂ j x ≡ true

-- what it makes of the search: fewer pairs are open
pub record Turned (n : ℕ) (Step : ℕ → ℕ → ℕ → ℕ → Type 0) (r₀ r p r₂ p₂ : ℕ → ℕ → Bool) : Type 0 where
  pub next : Searching n Step r₀ r₂ p₂
  pub less : open_in n r₂ p₂ < open_in n r p

module _ (n : ℕ) (Step : ℕ → ℕ → ℕ → ℕ → Type 0) (expands : ℕ → Bool) (i : ℕ) (r₀ r p p₁ r₂ p₂ : ℕ → ℕ → Bool) (li : i < n)
    (inside : (i q j p : ℕ) → i < n → Step i q j p → j < n) (from : (i q j p : ℕ) → Step i q j p → expands i ≡ true)
    (old : Searching n Step r₀ r p) (x : Turn n Step expands i r p p₁ r₂ p₂) (q₀ : ℕ) (small : q₀ < 16) (some : p i q₀ ≡ true) where
  less₁ : (j q : ℕ) → j < n → p₁ j q ≡ true → p j q ≡ true
  less₁ j q l h = ⊎_elim (λ (e : j ≡ i). absurd (clash (rw e at h) (x.here q))) (λ d. sym (x.there j q l d) ∙ h) (eq_or_ne j i)

  -- a pair that was pending, and is not once i's states are taken, is one of them
  taken : (j q : ℕ) → j < n → p j q ≡ true → p₁ j q ≡ false → j ≡ i
  taken j q l h f = ⊎_elim (λ (e : j ≡ i). e) (λ d. absurd (clash h (sym (x.there j q l d) ∙ f))) (eq_or_ne j i)

  turn_sound : (j y : ℕ) → j < n → r₂ j y ≡ true → Comes (Marked n r₀) Step j y
  turn_sound j y l h =
      ⊎_elim (λ a. old.sound j y l a) (λ (q, m, t). step (old.sound i q li (old.within i q li m)) t) (x.only j y l h)

  turn_within : (j q : ℕ) → j < n → p₂ j q ≡ true → r₂ j q ≡ true
  turn_within j q l h =
      ⊎_elim (λ a. x.kept j q l (old.within j q l (less₁ j q l a)))
      (λ a. and_left (r₂ j q) (not (r j q)) (and_right (expands j) (r₂ j q && not (r j q)) a))
      (or_elim (p₁ j q) (expands j && (r₂ j q && not (r j q))) (sym (x.fresh j q l) ∙ h))

  -- what holds of a pair that was expanded before, and of those that are expanded now, holds of all that are
  pub turn_holds : (P : ℕ → ℕ → Type 0) → ((j q : ℕ) → j < n → r j q ≡ true → p j q ≡ false → P j q) → ((q : ℕ) → p i q ≡ true → P i q)
      → (j q : ℕ) → j < n → expands j ≡ true → r₂ j q ≡ true → p₂ j q ≡ false → P j q
  turn_holds P before here j q l h m f =
      let g : p₂ j q ≡ (p₁ j q || (r₂ j q && not (r j q))) = x.fresh j q l ∙ ap (λ b. p₁ j q || (b && (r₂ j q && not (r j q)))) h in
      let c = done_before (r j q) (r₂ j q) (p₁ j q) (p₂ j q) g f m in
      ⊎_elim (λ (t : p j q ≡ true). let e = taken j q l t c.1 in subst (λ a. P a q) (sym e) (here q (rw e at t))) (λ t. before j q l c.0 t) (either (p j q))

  turn_closed : (j q k y : ℕ) → j < n → r₂ j q ≡ true → p₂ j q ≡ false → Step j q k y → r₂ k y ≡ true
  turn_closed j q k y l m f t =
      turn_holds (λ j q. (k y : ℕ) → k < n → Step j q k y → r₂ k y ≡ true)
      (λ j q l a b k y u t. x.kept k y u (old.closed j q k y l a b t)) (λ q a k y u t. x.all q k y u a t)
      j q l (from j q k y t) m f k y (inside j q k y l t) t

  turn_done : (j q : ℕ) → j < n → done r p j q ≡ true → done r₂ p₂ j q ≡ true
  turn_done j q l h =
      let a = and_left (r j q) (not (p j q)) h in
      let b = not_elim (p j q) (and_right (r j q) (not (p j q)) h) in
      let b₁ : p₁ j q ≡ false = not_known (λ c. clash (less₁ j q l c) b) in
      rw (x.kept j q l a, quiet (r j q) (r₂ j q) (p₁ j q) (p₂ j q) (expands j) (x.fresh j q l) b₁ a)

  -- a state that was taken was expanded
  turn_new : (done r p i q₀ ≡ false) × (done r₂ p₂ i q₀ ≡ true)
  turn_new =
      let a = old.within i q₀ li some in (
        rw (some, a),
        rw (x.kept i q₀ li a, quiet (r i q₀) (r₂ i q₀) (p₁ i q₀) (p₂ i q₀) (expands i) (x.fresh i q₀ li) (x.here q₀) a),
      )

  turn_less : open_in n r₂ p₂ < open_in n r p
  turn_less =
      let a : (16 * i + q₀) / 16 ≡ i = omega arith in
      let b : (16 * i + q₀) % 16 ≡ q₀ = omega arith in
      let d = turn_new in
      tally_lt (is_open r₂ p₂) (is_open r p) (16 * n) (16 * i + q₀)
      (λ k l h. not_mono (done r p (k / 16) (k % 16)) (done r₂ p₂ (k / 16) (k % 16)) (turn_done (k / 16) (k % 16) (omega arith)) h)
      (omega arith) (rw (a, b, d.1)) (rw (a, b, d.0))

  pub search_turn : Turned n Step r₀ r p r₂ p₂
  search_turn =
      record {
        next = record { seeds = λ j q l h. x.kept j q l (old.seeds j q l h); sound = turn_sound; within = turn_within; closed = turn_closed };
        less = turn_less;
      }
