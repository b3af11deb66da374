-- `states::size` meets its contract. Assumes nothing.
use mathlib.Core.Path.{sym}
use native.Mathlib.Omega.{arith}
use Rattle.sets.proofs.Members.{length_states}
use Rattle.sets.proofs.states.size.Goals as goal

pub returns : goal.returns
returns c = sym (length_states 16 _ (omega arith))
