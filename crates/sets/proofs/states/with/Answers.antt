-- `states::with` meets its contract. Assumes nothing.
use Rattle.sets.proofs.StateSets.{has_with}
use Rattle.sets.proofs.states.with.Goals as goal

pub returns : goal.returns
returns c p = has_with 16 _ _ p c.requires
