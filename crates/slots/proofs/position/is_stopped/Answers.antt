-- `position::is_stopped` meets its contract. Assumes nothing.
use Rattle.slots.specs.Slots.{stopped_at}
use Rattle.slots.proofs.position.is_stopped.Goals as goal

pub returns : goal.returns
unfolding stopped_at
returns c = cc
