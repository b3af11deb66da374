-- The expression (1 | 2)* 3, worked out. A label word holds its own number alone. Assumes nothing.
use mathlib.Core.Path.{◌≡◌, refl}
use mathlib.Core.Bool.{true, false}
use mathlib.Core.List.{List, [], ◌∷◌, map}
use mathlib.Core.Option
use mathlib.Core.Option.{some}
use Prim.Native.Nat.{ℕ}
use lib.Dec.{eqb}
use Rattle.expressions.specs.Expr.{Expr, letter, then, or, star, Matches}
use Rattle.expressions.specs.Positions.{next, accepts}
use Rattle.expressions.specs.Postfix.{put_letter, make_then, make_or, make_star, read, items}
use Rattle.expressions.proofs.Glushkov.{glushkov}
use Rattle.expressions.specs.Fragments.{compute}

abbrev e : Expr
e = then (star (or (letter 1) (letter 2))) (letter 3)

written : items e ≡ put_letter 1 ∷ put_letter 2 ∷ make_or ∷ make_star ∷ put_letter 3 ∷ make_then ∷ []
written = refl

read_back : read (put_letter 1 ∷ put_letter 2 ∷ make_or ∷ make_star ∷ put_letter 3 ∷ make_then ∷ []) [] ≡ some e
read_back = refl

-- the states that may come next after 0, after 1 and after 3, and the states in which a word may end
abbrev states : List ℕ
states = 0 ∷ 1 ∷ 2 ∷ 3 ∷ []

after_0 : map (next e 0) states ≡ false ∷ true ∷ true ∷ true ∷ []
after_0 = refl

after_1 : map (next e 1) states ≡ false ∷ true ∷ true ∷ true ∷ []
after_1 = refl

after_3 : map (next e 3) states ≡ false ∷ false ∷ false ∷ false ∷ []
after_3 = refl

ends : map (accepts e) states ≡ false ∷ false ∷ false ∷ true ∷ []
ends = refl

-- the row after 1, as the stack of fragments has it
computed_1 : Option.map (λ t. map (t.follows 1) states) (compute (items e) [] [] (λ q p. false)) ≡ some (false ∷ true ∷ true ∷ true ∷ [])
computed_1 = refl

-- the word 2 1 3 is accepted, so it is a word of the expression
matched : Matches eqb e (2 ∷ 1 ∷ 3 ∷ [])
matched = (glushkov eqb e (2 ∷ 1 ∷ 3 ∷ [])).1 (3, (2, tt, (1, tt, (3, tt, refl))), tt)
