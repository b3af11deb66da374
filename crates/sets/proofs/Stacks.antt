-- The laws of a stack of the numbers that wait. Assumes nothing.
use mathlib.Core.Path.{◌≡◌, sym, ap, ◌∙◌}
use mathlib.Core.Logic.{⊎_elim}
use mathlib.Core.Bool.{Bool, true, false}
use Prim.Native.Nat.{ℕ, ◌+◌, ◌-◌, ◌<◌}
use native.Mathlib.Omega.{arith}
use Rattle.sets.specs.Tally.{tally}
use Rattle.sets.specs.Stack.{Stacked}
use Rattle.sets.proofs.Cases.{eq_or_ne, lt_or_le, clash}
use Rattle.sets.proofs.Tallies.{tally_same, tally_more, tally_lt, tally_none}

-- other bytes, the same stack
pub stacked_same : (n : ℕ) (waits waits' : ℕ → Bool) (place place' : ℕ → ℕ) (top : ℕ) → ((j : ℕ) → j < n → waits' j ≡ waits j) → ((k : ℕ) → k < top → place' k ≡ place k)
    → Stacked n waits place top → Stacked n waits' place' top
stacked_same n waits waits' place place' top hw hp s =
    record {
      count = s.count ∙ tally_same waits waits' n (λ k l. sym (hw k l));
      held = λ j l m. let h = s.held j l (sym (hw j l) ∙ m) in (h.0, h.1, hp h.0 h.1 ∙ h.2);
      below = λ k l. rw (hp k l) (s.below k l);
      live = λ k l. rw (hp k l) (hw (place k) (s.below k l) ∙ s.live k l);
      apart = λ k l hk hl e. s.apart k l hk hl (sym (hp k hk) ∙ e ∙ hp l hl);
    }

-- t begins to wait, and goes on top
module _ (n : ℕ) (waits waits' : ℕ → Bool) (place place' : ℕ → ℕ) (top t : ℕ) (l : t < n) (f : waits t ≡ false) (m : waits' t ≡ true)
    (hw : (j : ℕ) → j < n → (j ≡ t → ⊥) → waits' j ≡ waits j) (hp : (k : ℕ) → k < top → place' k ≡ place k) (here : place' top ≡ t) (s : Stacked n waits place top) where
  differs : (k : ℕ) → k < top → place k ≡ t → ⊥
  differs k h e = clash (s.live k h) (rw e f)

  push_place : (k : ℕ) → k < top + 1 → (place' k < n) × (waits' (place' k) ≡ true)
  push_place k h =
      ⊎_elim (λ (g : k < top). (rw (hp k g) (s.below k g), rw (hp k g) (hw (place k) (s.below k g) (differs k g) ∙ s.live k g)))
      (λ g. let e : k ≡ top = omega arith in (rw (e, here) l, rw (e, here) m)) (lt_or_le k top)

  push_held : (j : ℕ) → j < n → waits' j ≡ true → (k : ℕ) × (k < top + 1) × (place' k ≡ j)
  push_held j h w =
      ⊎_elim (λ (e : j ≡ t). (top, omega arith, here ∙ sym e))
      (λ d. let r = s.held j h (sym (hw j h d) ∙ w) in (r.0, omega (arith, r.1), hp r.0 r.1 ∙ r.2)) (eq_or_ne j t)

  push_apart : (k k' : ℕ) → k < top + 1 → k' < top + 1 → place' k ≡ place' k' → k ≡ k'
  push_apart k k' h h' e =
      ⊎_elim
      (λ (g : k < top). ⊎_elim (λ (g' : k' < top). s.apart k k' g g' (sym (hp k g) ∙ e ∙ hp k' g'))
      (λ g'. let i : k' ≡ top = omega arith in absurd (differs k g (sym (hp k g) ∙ e ∙ ap place' i ∙ here))) (lt_or_le k' top))
      (λ g. ⊎_elim (λ (g' : k' < top). let i : k ≡ top = omega arith in absurd (differs k' g' (sym (hp k' g') ∙ sym e ∙ ap place' i ∙ here)))
      (λ g'. omega arith) (lt_or_le k' top))
      (lt_or_le k top)

  pub stacked_push : Stacked n waits' place' (top + 1)
  stacked_push =
      record {
        count = ap (λ (x : ℕ). x + 1) s.count ∙ sym (tally_more waits waits' n t l f m (λ k h d. sym (hw k h d)));
        held = push_held;
        below = λ k h. (push_place k h).0;
        live = λ k h. (push_place k h).1;
        apart = push_apart;
      }

-- there is room for a number that does not wait yet: fewer wait than could
pub stacked_room : (n : ℕ) (waits could : ℕ → Bool) (place : ℕ → ℕ) (top t : ℕ) → ((j : ℕ) → j < n → waits j ≡ true → could j ≡ true)
    → t < n → waits t ≡ false → could t ≡ true → Stacked n waits place top → top < tally could n
stacked_room n waits could place top t h l f c s = omega (arith, s.count, tally_lt waits could n t h l f c)

-- none waits
pub stacked_empty : (n : ℕ) (waits : ℕ → Bool) (place : ℕ → ℕ) → ((j : ℕ) → j < n → waits j ≡ false) → Stacked n waits place 0
stacked_empty n waits place h =
    record {
      count = sym (tally_none waits n h);
      held = λ j l m. absurd (clash m (h j l));
      below = λ k l. absurd (omega arith);
      live = λ k l. absurd (omega arith);
      apart = λ k l i. absurd (omega arith);
    }

-- the number on top is taken off, and waits no more
module _ (n : ℕ) (waits waits' : ℕ → Bool) (place : ℕ → ℕ) (top : ℕ) (pos : 0 < top) (s : Stacked n waits place top) (f : waits' (place (top - 1)) ≡ false)
    (hw : (j : ℕ) → j < n → (j ≡ place (top - 1) → ⊥) → waits' j ≡ waits j) where
  others : (k : ℕ) → k < top - 1 → place k ≡ place (top - 1) → ⊥
  others k h e = let i = s.apart k (top - 1) (omega arith) (omega arith) e in omega arith

  pop_held : (j : ℕ) → j < n → waits' j ≡ true → (k : ℕ) × (k < top - 1) × (place k ≡ j)
  pop_held j l m =
      let d : j ≡ place (top - 1) → ⊥ = λ e. clash m (rw e f) in
      let r = s.held j l (sym (hw j l d) ∙ m) in
      ⊎_elim (λ (g : r.0 < top - 1). (r.0, g, r.2)) (λ g. let i : r.0 ≡ top - 1 = omega (arith, r.1) in absurd (d (sym r.2 ∙ ap place i)))
      (lt_or_le r.0 (top - 1))

  pub stacked_pop : Stacked n waits' place (top - 1)
  stacked_pop =
      let b = s.below (top - 1) (omega arith) in
      record {
        count = omega (arith, s.count, tally_more waits' waits n (place (top - 1)) b f (s.live (top - 1) (omega arith)) hw);
        held = pop_held;
        below = λ k l. s.below k (omega arith);
        live = λ k l. hw (place k) (s.below k (omega arith)) (others k l) ∙ s.live k (omega arith);
        apart = λ k k' h h'. s.apart k k' (omega arith) (omega arith);
      }
