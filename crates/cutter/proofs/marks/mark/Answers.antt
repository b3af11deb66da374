-- `cutter::marks::mark` meets its contract.
-- Assumes nothing.
use borrow.Author.Rules.{rules}
use Rattle.cutter.proofs.Passes.{mark_node, mark_edge}
use Rattle.cutter.proofs.marks.mark.Goals as goal

-- a node's word is made of its fields
pub returns-then-is_node : goal.returns-then-is_node
returns-then-is_node c =
    mark_node _ _ c.if-is_node.true c.is_node.ensures c.node-x.ensures c.root.ensures c.has.ensures c.root-then-is_node.ensures
    c.stopped.ensures c.node_word.ensures

pub returns : goal.returns
returns c = search (mark_edge, rules)
