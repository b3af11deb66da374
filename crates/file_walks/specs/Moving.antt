-- Believed. A set of states takes one label. Document 02, request 10, for the definitions of what checker and finder compute; which walks are accepted is
-- said without it.
use Rattle.std.specs.Prelude.{Bool, List, ℕ, suc}
use Rattle.sets.specs.Sets.{any}
use Rattle.sets.specs.States.{members}
use Rattle.expressions.specs.Expr.{Expr, count}
use Rattle.expressions.specs.Positions.{step}

-- the states that the label takes a state of s to, ascending
abbrev pub moved : (ℕ → ℕ → Bool) → Expr → List ℕ → ℕ → List ℕ
moved holds e s a = members (λ p. any (λ q. step holds e q a p) s) 0 (suc (count e))
