-- Laws of expression words: which case a word is, and what a case says of its word.
-- Assumes nothing.
use mathlib.Core.Path.{◌≡◌, refl, sym, ◌∙◌}
use mathlib.Core.Bool.{Bool, true, false, cond}
use Prim.Native.Nat.{ℕ, zero, suc, ◌<◌}
use native.Mathlib.Omega.{arith}
use lib.Dec.{eqb}
use Rattle.std.specs.Prelude.{Result, Ok, Err}
use borrow.Author.Tests.{eq-eqb, ne_eqb, eqb-true}
use Rattle.files.specs.declared.expr.Label.{Label}
use Rattle.files.specs.declared.expr.Label.TheVariants.{Outside}
use Rattle.files.specs.declared.expr.ExprWord.{ExprWord}
use Rattle.files.specs.declared.expr.ExprWord.TheVariants as variants
use Rattle.files.specs.declared.expr.Operator.{Operator}
use Rattle.files.specs.declared.refusal.Refusal.{Refusal}
use Rattle.files.specs.declared.refusal.Refusal.TheVariants.{WrongWord}
use Rattle.files.specs.Path.{is_label, sort_of, low_of, high_of}
use Rattle.files.specs.Expr.{expr_check, label_at, operator_named, operator_number, operator_at, expr_at}

-- a label word of sort 2 is outside its range
module _ (w : ℕ) {k : ℕ} (e : k ≡ sort_of w) (z : k ≡ 0 → ⊥) where
  pub label_outside : {a b : ℕ} → k ≡ 2 → a ≡ low_of w → b ≡ high_of w → Outside a b ≡ label_at w
  label_outside y f g = rw (ne_eqb (sort_of w) 0 (λ q. z (e ∙ q)), eq-eqb (sort_of w) 2 (sym e ∙ y), f, g)

-- what a case says of its word
module _ (w : ℕ) {r : Result ExprWord Refusal} (h : r ≡ expr_at w) where
  pub label_told : {l : Label} → r ≡ Ok (variants.Label l) → (expr_check w ≡ 0) × (is_label w ≡ true) × (l ≡ label_at w)
  label_told {l} q = let t = go (eqb (expr_check w) 0) (is_label w) (sym q ∙ h) in (eqb-true (expr_check w) 0 t.0, t.1, t.2)
    where
      go : (c b : Bool) → Ok (variants.Label l) ≡ cond c (Ok (cond b (variants.Label (label_at w)) (variants.Operator (operator_at w)))) (Err WrongWord)
          → (c ≡ true) × (b ≡ true) × (l ≡ label_at w)
      go true true k = (refl, refl, cc)
      go true false k = let z : ◌≡◌ {A = ℕ} 0 1 = cc in absurd (omega arith)
      go false b k = let z : ◌≡◌ {A = ℕ} 0 1 = cc in absurd (omega arith)

  pub operator_told : {o : Operator} → r ≡ Ok (variants.Operator o) → (expr_check w ≡ 0) × (is_label w ≡ false) × (o ≡ operator_at w)
  operator_told {o} q = let t = go (eqb (expr_check w) 0) (is_label w) (sym q ∙ h) in (eqb-true (expr_check w) 0 t.0, t.1, t.2)
    where
      go : (c b : Bool) → Ok (variants.Operator o) ≡ cond c (Ok (cond b (variants.Label (label_at w)) (variants.Operator (operator_at w)))) (Err WrongWord)
          → (c ≡ true) × (b ≡ false) × (o ≡ operator_at w)
      go true true k = let z : ◌≡◌ {A = ℕ} 0 1 = cc in absurd (omega arith)
      go true false k = (refl, refl, cc)
      go false b k = let z : ◌≡◌ {A = ℕ} 0 1 = cc in absurd (omega arith)

  pub wrong_told : {x : Refusal} → r ≡ Err x → expr_check w ≡ 0 → ⊥
  wrong_told {x} q z = let k : Err x ≡ Ok (cond (is_label w) (variants.Label (label_at w)) (variants.Operator (operator_at w))) = sym q ∙ h ∙ rw z in
      let z : ◌≡◌ {A = ℕ} 0 1 = cc in omega arith

-- an operator by its number, and back
pub operator_back : (k : ℕ) → k < 4 → operator_number (operator_named k) ≡ k
operator_back zero h = refl
operator_back (suc zero) h = refl
operator_back (suc (suc zero)) h = refl
operator_back (suc (suc (suc zero))) h = refl
operator_back (suc (suc (suc (suc k)))) h = absurd (omega arith)
