-- `position::is_edge` meets its contract. Assumes nothing.
use Rattle.slots.specs.Slots.{edge_at}
use Rattle.slots.proofs.position.is_edge.Goals as goal

pub returns : goal.returns
unfolding edge_at
returns c = cc
