-- `sets::node_set::add` meets its contract.
-- Assumes nothing.
use borrow.Author.Rules.{rules}
use Rattle.sets.proofs.NodeSets.{node_added}
use Rattle.sets.proofs.node_set.add.Goals as goal

pub returns : goal.returns
returns c = search (node_added, rules)
