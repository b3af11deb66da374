-- Inner. An expression word by its case: a label of one of three sorts, or an operator. Document 01, "Path".
use Rattle.std.specs.Prelude.{ℕ, zero, suc, cond, eqb, Result, Ok, Err}
use Rattle.files.specs.declared.expr.Label.{Label}
use Rattle.files.specs.declared.expr.Label.TheVariants.{Range, Group, Outside}
use Rattle.files.specs.declared.expr.Operator.{Operator}
use Rattle.files.specs.declared.expr.Operator.TheVariants.{Empty, Then, Or, Star}
use Rattle.files.specs.declared.expr.ExprWord.{ExprWord}
use Rattle.files.specs.declared.expr.ExprWord.TheVariants as variants
use Rattle.files.specs.declared.refusal.Refusal.{Refusal}
use Rattle.files.specs.declared.refusal.Refusal.TheVariants.{WrongWord}
use Rattle.files.specs.Path.{is_label, sort_of, low_of, high_of, group_of, operator_of, label_check, operator_check}

-- an expression word by itself
abbrev pub expr_check : ℕ → ℕ
expr_check w = cond (is_label w) (label_check w) (operator_check w)

-- what a label word says, by its sort
abbrev pub label_at : ℕ → Label
label_at w =
    cond (eqb (sort_of w) 0) (Range (low_of w) (high_of w))
    (cond (eqb (sort_of w) 2) (Outside (low_of w) (high_of w)) (Group (group_of w)))

-- an operator by its number, and back
abbrev pub operator_named : ℕ → Operator
operator_named zero = Empty
operator_named (suc zero) = Then
operator_named (suc (suc zero)) = Or
operator_named (suc (suc (suc k))) = Star

abbrev pub operator_number : Operator → ℕ
operator_number Empty = 0
operator_number Then = 1
operator_number Or = 2
operator_number Star = 3

abbrev pub operator_at : ℕ → Operator
operator_at w = operator_named (operator_of w)

-- what an expression word says, or 5
abbrev pub expr_at : ℕ → Result ExprWord Refusal
expr_at w =
    cond (eqb (expr_check w) 0)
    (Ok (cond (is_label w) (variants.Label (label_at w)) (variants.Operator (operator_at w))))
    (Err WrongWord)
