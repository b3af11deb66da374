-- One turn of a loop over a set of states, lowest first.
use mathlib.Core.Path.{◌≡◌, sym, ◌∙◌}
use mathlib.Core.Logic.{◌⊎◌, inl, inr, ⊎_elim, ◌↔◌}
use mathlib.Core.Bool.{true, ◌||◌}
use mathlib.Core.List.{List}
use Prim.Native.Nat.{ℕ}
use borrow.Author.Tests.{ne_eqb}
use lib.Bits.{bit_or}
use lib.ListN.{get_or}
use Rattle.sets.specs.States.{has_state, Lowest, Rest}
use Rattle.sets.specs.Follow.{MayFollow}
use Rattle.sets.proofs.Cases.{eq_or_ne, or_elim, or_left, or_right, and_left, clash}
use Rattle.sets.proofs.StateSets.{has_or, has_empty}

-- a state of s is the lowest, or a state of the rest
module _ {s q s' : ℕ} (l : Lowest s q) (r : Rest s s') where
  pub split_state : (x : ℕ) → has_state s x ≡ true → (x ≡ q) ⊎ (has_state s' x ≡ true)
  split_state x m = ⊎_elim (λ e. inl e) (λ n. inr (r.has x ∙ rw (m, ne_eqb x _ (λ e. n (e ∙ sym l.is))))) (eq_or_ne x q)

  pub rest_state : (x : ℕ) → has_state s' x ≡ true → has_state s x ≡ true
  rest_state x m = and_left (has_state s x) _ (sym (r.has x) ∙ m)

-- what is gathered, with what the states that are left still give
abbrev pub Gathered : List ℕ → ℕ → ℕ → ℕ → Type 0
Gathered follow acc s p = (has_state acc p ≡ true) ⊎ MayFollow follow s p

pub gather : (follow : List ℕ) {s q s' : ℕ} (acc : ℕ) → Lowest s q → Rest s s' → (p : ℕ) → Gathered follow (bit_or acc (get_or follow q 0)) s' p ↔ Gathered follow acc s p
gather follow {s} {q} {s'} acc l r p = (down, up)
  where
    now : has_state (bit_or acc (get_or follow q 0)) p ≡ (has_state acc p || has_state (get_or follow q 0) p)
    now = has_or acc (get_or follow q 0) p

    down : Gathered follow (bit_or acc (get_or follow q 0)) s' p → Gathered follow acc s p
    down (inl h) = ⊎_elim (λ a. inl a) (λ a. inr (q, l.member, a)) (or_elim (has_state acc p) (has_state (get_or follow q 0) p) (sym now ∙ h))
    down (inr (x, m, f)) = inr (x, rest_state l r x m, f)

    up : Gathered follow acc s p → Gathered follow (bit_or acc (get_or follow q 0)) s' p
    up (inl h) = inl (now ∙ or_left (has_state acc p) (has_state (get_or follow q 0) p) h)
    up (inr (x, m, f)) =
        ⊎_elim (λ e. inl (now ∙ or_right (has_state acc p) (has_state (get_or follow q 0) p) (rw e at f)))
        (λ m'. inr (x, m', f)) (split_state l r x m)

-- where the loop begins, with nothing gathered, and where it ends, with no state left
pub gather_none : (follow : List ℕ) (s p : ℕ) → Gathered follow 0 s p ↔ MayFollow follow s p
gather_none follow s p = (⊎_elim (λ h. absurd (clash h (has_empty p))) (λ m. m), λ m. inr m)

pub gather_all : (follow : List ℕ) (acc s p : ℕ) → s ≡ 0 → (has_state acc p ≡ true) ↔ Gathered follow acc s p
gather_all follow acc s p e = (λ h. inl h, ⊎_elim (λ h. h) (λ (x, m, f). absurd (clash m (rw e (has_empty x)))))
