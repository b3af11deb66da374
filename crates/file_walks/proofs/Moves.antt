-- A set of states in sixteen bits moves by a label as the definition's list does: `moved_bits`. Assumes nothing.
use mathlib.Core.Path.{◌≡◌, refl, ap, ◌∙◌}
use mathlib.Core.Logic.{◌↔◌}
use mathlib.Core.Bool.{Bool, true, false}
use mathlib.Core.List.{[], ◌∷◌}
use Prim.Native.Nat.{ℕ, zero, suc, ◌+◌, ◌-◌, ◌≤◌, ◌<◌}
use native.Mathlib.Omega.{arith}
use lib.Dec.{T}
use Rattle.sets.specs.Sets.{any}
use Rattle.sets.specs.States.{has_state, keep, members, states_of}
use Rattle.sets.proofs.Tests.{is_true, passed, same_test}
use Rattle.sets.proofs.Cases.{not_known}
use Rattle.sets.proofs.Filter.{any_iff}
use Rattle.sets.proofs.Members.{members_same, members_none, members_in, in_members}
use Rattle.expressions.specs.Expr.{Expr, count}
use Rattle.expressions.specs.Positions.{step}
use Rattle.expressions.proofs.Ranges.{step_range}
use Rattle.file_walks.specs.Moving.{moved}
use Rattle.file_walks.proofs.Leading.{step_from}

-- a range at whose end none passes
members_short : (p : ℕ → Bool) (at a b : ℕ) → ((q : ℕ) → at + a ≤ q → q < at + a + b → p q ≡ false) → members p at (a + b) ≡ members p at a
unfolding members
members_short p at zero b h =
    let e : 0 + b ≡ b = omega arith in
    ap (members p at) e ∙ members_none p at b (λ q l u. h q (omega arith) (omega arith))
members_short p at (suc a) b h =
    let e : suc a + b ≡ suc (a + b) = omega arith in
    ap (members p at) e ∙ ap (keep (p at) at) (members_short p (suc at) a b (λ q l u. h q (omega arith) (omega arith)))

-- r has the states that the label takes a state of s to, bit by bit
pub moved_bits : (holds : ℕ → ℕ → Bool) (e : Expr) → count e ≤ 15 → (s r a : ℕ)
    → ((p : ℕ) → (has_state r p ≡ true) ↔ ((q : ℕ) × (has_state s q ≡ true) × (step holds e q a p ≡ true)))
    → states_of r ≡ moved holds e (states_of s) a
moved_bits holds e small s r a h =
    members_same (has_state r) may 0 16 (λ p l u. same_test (λ t. down p (is_true (has_state r p) t)) (λ t. passed (up p t)))
    ∙ ap (members may 0) split
    ∙ members_short may 0 (suc (count e)) (15 - count e) (λ p l u. not_known (λ t.
    let (q, m, k) = (any_iff (λ q. step holds e q a p) (states_of s)).0 (passed t) in omega (arith, (step_range holds e q a p k).1)))
  where
    may : ℕ → Bool
    may p = any (λ q. step holds e q a p) (states_of s)

    split : 16 ≡ suc (count e) + (15 - count e)
    split = omega arith

    down : (p : ℕ) → has_state r p ≡ true → T (may p)
    down p t =
        let (q, k, i) = (h p).0 t in
        (any_iff (λ q. step holds e q a p) (states_of s)).1
        (q, members_in (has_state s) 0 16 q (omega arith) (omega (arith, step_from holds e q a p (passed i))) k, passed i)

    up : (p : ℕ) → T (may p) → has_state r p ≡ true
    up p t =
        let (q, m, i) = (any_iff (λ q. step holds e q a p) (states_of s)).0 t in
        (h p).1 (q, (in_members (has_state s) 0 16 q m).2, is_true (step holds e q a p) i)

-- before all words there is state 0
pub start_bits : states_of 1 ≡ 0 ∷ []
unfolding members has_state
start_bits = refl
