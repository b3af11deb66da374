-- `states::minus` meets its contract. Assumes nothing.
use native.Mathlib.Omega.{arith}
use Rattle.sets.proofs.StateSets.{has_minus}
use Rattle.sets.proofs.states.minus.Goals as goal

pub returns : goal.returns
returns c p = has_minus 16 _ _ p (omega arith) (omega arith)
