-- `dearest::path::write_range` meets its contract. Assumes nothing.
use native.Mathlib.Omega.{arith}
use borrow.Author.Rules.{rules}
use Rattle.dearest.proofs.Writing.{range_joined}
use Rattle.dearest.proofs.path.write_range.Goals as goal

-- what the test says is taken as a number
pub returns-then-joined : goal.returns-then-joined
returns-then-joined c =
    range_joined c.args.k (omega (arith, c.if-joined.true)) c.range_word.ensures c.operator_word.ensures
    c.push-count.ensures (search rules) c.push.ensures
