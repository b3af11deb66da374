-- Believed. A path expression as a file has it, in postfix order, read with a stack.
use Rattle.std.specs.Prelude.{List, [], ◌∷◌, ◌++◌, ℕ}
use Rattle.std.proofs.Math.Option.{Option, none, some}
use Rattle.expressions.specs.Expr.{Expr, empty, letter, then, or, star}

pub data Item : Type 0 where
  put_empty : Item
  put_letter : (l : ℕ) → Item
  make_then make_or make_star : Item

-- The expression that the items make on the stack s, its top first: none where an operator lacks an operand, or
-- where not just one expression is left.
abbrev pub read : List Item → List Expr → Option Expr
read [] [] = none
read [] (e ∷ []) = some e
read [] (b ∷ a ∷ s) = none
read (put_empty ∷ is) s = read is (empty ∷ s)
read (put_letter l ∷ is) s = read is (letter l ∷ s)
read (make_then ∷ is) [] = none
read (make_then ∷ is) (b ∷ []) = none
read (make_then ∷ is) (b ∷ a ∷ s) = read is (then a b ∷ s)
read (make_or ∷ is) [] = none
read (make_or ∷ is) (b ∷ []) = none
read (make_or ∷ is) (b ∷ a ∷ s) = read is (or a b ∷ s)
read (make_star ∷ is) [] = none
read (make_star ∷ is) (a ∷ s) = read is (star a ∷ s)

-- the items of an expression
abbrev pub items : Expr → List Item
items empty = put_empty ∷ []
items (letter l) = put_letter l ∷ []
items (then a b) = items a ++ items b ++ make_then ∷ []
items (or a b) = items a ++ items b ++ make_or ∷ []
items (star a) = items a ++ make_star ∷ []
