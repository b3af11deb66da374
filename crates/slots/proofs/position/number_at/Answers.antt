-- `position::number_at` meets its contract. Assumes nothing.
use Rattle.slots.specs.Slots.{number}
use Rattle.slots.proofs.position.number_at.Goals as goal

pub returns : goal.returns
unfolding number
returns c = cc
