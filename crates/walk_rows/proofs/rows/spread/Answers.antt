-- `rows::spread` meets its contract. The invariant: the states below q were hit. Assumes nothing.
use native.Mathlib.Omega.{arith}
use Rattle.walk_rows.proofs.Cells.{spread_none, spread_more, spread_tells}
use Rattle.walk_rows.proofs.rows.spread.Goals as goal

pub loop-q-init : goal.loop-q-init
loop-q-init c = spread_none _ _ _ _

-- the state q is hit where the set has it and it has no number
pub loop-q-preserved : goal.loop-q-preserved
loop-q-preserved c =
    spread_more c.loop-q.invariant c.hit.new.work c.requires.0 (omega (arith, c.loop-q.invariant.hit.same, c.requires.1)) c.loop-q-test.true c.get16-n.ensures
    (rw c.has.ensures) c.hit.ensures

pub returns-clause-tells : goal.returns-clause-tells
returns-clause-tells c = spread_tells c.loop-q.invariant (omega (arith, c.loop-q-test.false))
