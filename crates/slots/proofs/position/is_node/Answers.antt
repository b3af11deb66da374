-- `position::is_node` meets its contract. Assumes nothing.
use Rattle.slots.specs.Slots.{node_at}
use Rattle.slots.proofs.position.is_node.Goals as goal

pub returns : goal.returns
unfolding node_at
returns c = cc
