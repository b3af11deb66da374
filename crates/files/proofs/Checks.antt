-- Checks as facts: a chain of checks gives 0 exactly if each of them does, and a single check exactly if its test passes. `simp checks at h`
-- takes an accepted chain h apart, into the facts that were tested, and `simp checks` makes one. Assumes nothing.
use mathlib.Core.Path.{◌≡◌, refl, sym, ◌∙◌, ap}
use mathlib.Core.Logic.{◌↔◌, ◌⊎◌, inl, inr}
use mathlib.Core.Bool.{Bool, true, false}
use mathlib.Core.List.{List, []}
use Prim.Native.Nat.{ℕ, zero, suc, ◌*◌, ◌≤◌, ◌<◌}
use native.Mathlib.Omega.{arith}
use lib.Dec.{T, leb, ltb, leb→le}
use lib.ListN.{length}
use borrow.Author.Tests.{ltb-true, le-leb, lt-leb}
use Rattle.sets.proofs.Tests.{either, passed, and_iff, le_iff, eq_iff, same_test}
use Rattle.files.specs.Refuse.{◌then◌, ◌unless◌, room_check}
use Rattle.files.specs.declared.refusal.Refusal.{Refusal}
use Rattle.files.specs.declared.refusal.Refusal.TheVariants.{NoRoom, WrongSize, WrongHeader, WrongLength, WrongWord, NotAscending, WrongRoot, LostTarget, WrongOperands, StateTooHigh, WrongCounts, MixedReplies, NodeTwice, Stray, TooLong, WrongGroups, WrongFiles, WrongTriples, Unsaid, NoWalk, WrongDemands}
use Rattle.std.specs.Prelude.{Result, Ok}
use Rattle.files.specs.Refusal.{code, number}
use Rattle.files.specs.Outcome.{Outcome, refused, accepted, outcome, leaves}
use Rattle.files.specs.Limits.{work_bytes}

pub then_iff : (a b : ℕ) → ((a then b) ≡ 0) ↔ ((a ≡ 0) × (b ≡ 0))
then_iff zero b = (λ e. (refl, e), λ p. p.1)
then_iff (suc a) b = (λ e. absurd (omega arith), λ p. p.0)

-- a chain of accepted checks, one by one, and each left as it is
pub then_zero : {a b : ℕ} → a ≡ 0 → b ≡ 0 → (a then b) ≡ 0
then_zero {a} {b} e f = (then_iff a b).1 (e, f)

pub then_assoc : (a b c : ℕ) → ((a then b) then c) ≡ (a then (b then c))
then_assoc zero b c = refl
then_assoc (suc a) b c = refl

pub unless_iff : (k : ℕ) (b : Bool) → ltb 0 k ≡ true → ((k unless b) ≡ 0) ↔ T b
unless_iff k true h = (λ e. tt, λ t. refl)
unless_iff k false h = (λ e. absurd (omega (arith, ltb-true 0 k h)), λ t. absurd t)

-- a refusal stands, and an acceptance goes on to the next check: n is what a callee answered for a
pub refused_first : (a b : ℕ) {n : ℕ} → (n ≡ 0 → ⊥) → n ≡ a → n ≡ (a then b)
refused_first zero b h e = absurd (h e)
refused_first (suc a) b h e = e

pub passed_first : (a b : ℕ) {n r : ℕ} → n ≡ 0 → n ≡ a → r ≡ b → r ≡ (a then b)
passed_first a b h e f = rw (← e, h) f

-- checks one after another, each by a callee's answer: all of them, or the last where those before it pass
pub chained : {a b x y n : ℕ} → n ≡ (a then b) → a ≡ x → b ≡ y → n ≡ (x then y)
chained e f g = e ∙ rw (f, g)

pub ruleset checks = (then_iff, unless_iff, and_iff, eq_iff, le_iff)

-- long enough buffers
pub room_checked : (limit out work : ℕ) → 4 * limit ≤ out → work_bytes ≤ work → room_check limit out work ≡ 0
room_checked limit out work h k = simp checks (h, k)

-- accepted inputs give the result, or 15 if it is over its limit
pub outcome_gives : (limit : ℕ) (result : List ℕ) → length result ≤ limit → outcome 0 limit result ≡ accepted result
outcome_gives limit result h = rw (le-leb (length result) limit h)

pub outcome_over : (limit : ℕ) (result : List ℕ) → limit < length result → outcome 0 limit result ≡ refused 15
outcome_over limit result h = rw (lt-leb (length result) limit h)

-- what a call leaves with number 0 is a result
pub zero_accepted : (k limit : ℕ) (result : List ℕ) (n m : ℕ) → (leaves (outcome k limit result) n m).number ≡ 0
    → (k ≡ 0) × (length result ≤ limit) × (outcome k limit result ≡ accepted result)
zero_accepted (suc k) limit result n m e = absurd (omega arith)
zero_accepted zero limit result n m e =
    let h = short (either (leb (length result) limit)) in (refl, h, outcome_gives limit result h)
  where
    short : ((leb (length result) limit ≡ true) ⊎ (leb (length result) limit ≡ false)) → length result ≤ limit
    short (inl t) = leb→le (length result) limit (passed t)
    short (inr t) = absurd (omega (arith, rw t at e))

-- the number of the checks, and then 15
pub number_is : (k limit : ℕ) (result : List ℕ) (n m : ℕ) → (leaves (outcome k limit result) n m).number ≡ (k then 15 unless leb (length result) limit)
number_is zero limit result n m = elim (either (leb (length result) limit)) [ inl e ↦ rw e | inr e ↦ rw e ]
number_is (suc k) limit result n m = refl

-- no 15 where the result is within its limit
pub number_fits : (k limit : ℕ) (result : List ℕ) (n m : ℕ) → (k ≡ 0 → length result ≤ limit) → (leaves (outcome k limit result) n m).number ≡ k
number_fits zero limit result n m h = rw (le-leb (length result) limit (h refl))
number_fits (suc k) limit result n m h = refl

-- the result of what was accepted
abbrev result_of : Outcome → List ℕ
result_of (refused k) = []
result_of (accepted result) = result

pub outcome_accepted : (k limit : ℕ) (result f : List ℕ) → outcome k limit result ≡ accepted f → (k ≡ 0) × (length result ≤ limit) × (f ≡ result)
outcome_accepted k limit result f e =
    let (c, l, q) = zero_accepted k limit result 0 0 (ap (λ o. (leaves o 0 0).number) e) in
    (c, l, ap result_of (sym e ∙ q))

-- a check behind another matters where that passes
pub then_same : (c : ℕ) {x y : ℕ} → (c ≡ 0 → x ≡ y) → (c then x) ≡ (c then y)
then_same zero h = h refl
then_same (suc c) h = refl

-- no refusal has number 0
pub code_some : (e : Refusal) → code e ≡ 0 → ⊥
code_some NoRoom h = omega arith
code_some WrongSize h = omega arith
code_some WrongHeader h = omega arith
code_some WrongLength h = omega arith
code_some WrongWord h = omega arith
code_some NotAscending h = omega arith
code_some WrongRoot h = omega arith
code_some LostTarget h = omega arith
code_some WrongOperands h = omega arith
code_some StateTooHigh h = omega arith
code_some WrongCounts h = omega arith
code_some MixedReplies h = omega arith
code_some NodeTwice h = omega arith
code_some Stray h = omega arith
code_some TooLong h = omega arith
code_some WrongGroups h = omega arith
code_some WrongFiles h = omega arith
code_some WrongTriples h = omega arith
code_some Unsaid h = omega arith
code_some NoWalk h = omega arith
code_some WrongDemands h = omega arith

-- and what is accepted has it
pub ok_zero : {T : Type 0} {r : Result T Refusal} {x : T} → r ≡ Ok x → number r ≡ 0
ok_zero e = rw e
