-- Believed. The position automaton (Glushkov) of a path expression. A position is a letter of the expression, counted from 1
-- from left to right; where k letters stand before a part e, the positions of e are k + 1 to k + count e.
-- The states of the automaton are 0, its start, and the positions. Assumes nothing.
use Rattle.std.specs.Prelude.{◌≡◌, Bool, true, false, ◌&&◌, ◌||◌, List, [], ◌∷◌, ℕ, zero, suc, ◌+◌, T, eqb, get_or}
use Rattle.expressions.specs.Expr.{Expr, empty, letter, then, or, star, letters, count}

-- the empty word is a word of e
abbrev pub nullable : Expr → Bool
nullable empty = true
nullable (letter l) = false
nullable (then a b) = nullable a && nullable b
nullable (or a b) = nullable a || nullable b
nullable (star a) = true

-- p may begin a word of e, before which k letters stand
abbrev pub first : Expr → ℕ → ℕ → Bool
first empty k p = false
first (letter l) k p = eqb p (k + 1)
first (then a b) k p = first a k p || nullable a && first b (k + count a) p
first (or a b) k p = first a k p || first b (k + count a) p
first (star a) k p = first a k p

-- p may end a word of e
abbrev pub last : Expr → ℕ → ℕ → Bool
last empty k p = false
last (letter l) k p = eqb p (k + 1)
last (then a b) k p = last b (k + count a) p || nullable b && last a k p
last (or a b) k p = last a k p || last b (k + count a) p
last (star a) k p = last a k p

-- p may follow q in a word of e
abbrev pub follow : Expr → ℕ → ℕ → ℕ → Bool
follow empty k q p = false
follow (letter l) k q p = false
follow (then a b) k q p = follow a k q p || follow b (k + count a) q p || last a k q && first b (k + count a) p
follow (or a b) k q p = follow a k q p || follow b (k + count a) q p
follow (star a) k q p = follow a k q p || last a k q && first a k p

-- p may come next in state q
abbrev pub next : Expr → ℕ → ℕ → Bool
next e zero p = first e 0 p
next e (suc q) p = follow e 0 (suc q) p

-- a word may end in state q
abbrev pub accepts : Expr → ℕ → Bool
accepts e zero = nullable e
accepts e (suc q) = last e 0 (suc q)

-- the label word of position p
abbrev pub label_word : Expr → ℕ → ℕ
label_word e p = get_or (0 ∷ letters e) p 0

-- in state q the automaton steps to p on the label a
abbrev pub step : (ℕ → ℕ → Bool) → Expr → ℕ → ℕ → ℕ → Bool
step holds e q a p = next e q p && holds (label_word e p) a

-- the automaton goes from q to p by the labels of w, one after another
abbrev pub Run : (ℕ → ℕ → Bool) → Expr → ℕ → List ℕ → ℕ → Type 0
Run holds e q [] p = q ≡ p
Run holds e q (a ∷ w) p = (r : ℕ) × T (step holds e q a r) × Run holds e r w p
