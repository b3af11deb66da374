-- `table::get16` meets its contract. Assumes nothing.
use native.Mathlib.Omega.{arith}
use Rattle.sets.specs.Table.{half}
use Rattle.sets.proofs.table.get16.Goals as goal

pub returns : goal.returns
unfolding half
returns c = omega arith
