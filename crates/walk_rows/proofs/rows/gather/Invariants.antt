-- `rows::gather` meets its contract. The invariant: the states below q that pass the test are gathered, and no others. Assumes nothing.
use mathlib.Core.Path.{◌≡◌}
use mathlib.Core.Bool.{false}
use Prim.Native.Nat.{ℕ, ◌≤◌, ◌<◌}
use Rattle.sets.specs.States.{has_state}
use Rattle.walk_rows.proofs.rows.gather.Given as goal

abbrev pub invariant-loop-q : goal.invariant-loop-q
invariant-loop-q g l = ((p : ℕ) → p < l.q → goal.F-post g l.test p (has_state l.r p)) × ((p : ℕ) → l.q ≤ p → has_state l.r p ≡ false)
