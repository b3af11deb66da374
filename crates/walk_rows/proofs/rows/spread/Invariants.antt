-- `rows::spread` meets its contract. The invariant: the states below q were hit. Assumes nothing.
use Rattle.sets.specs.States.{has_state}
use Rattle.walk_rows.proofs.Cells.{Spreading}
use Rattle.walk_rows.proofs.rows.spread.Given as goal

abbrev pub invariant-loop-q : goal.invariant-loop-q
invariant-loop-q l = Spreading (has_state l.set) l.i l.v l.q l.initial.work l.work l.old l.new
