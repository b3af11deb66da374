-- `sets::node_set::has` meets its contract.
-- Assumes nothing.
use Rattle.sets.specs.NodeSet.{has_node}
use Rattle.sets.proofs.node_set.has.Goals as goal

pub returns : goal.returns
unfolding has_node
returns c = cc
