-- `generator::nodes::write_nodes` meets its contract. Assumes nothing.
use borrow.Author.Rules.{rules}
use Rattle.generator.proofs.Writing.{noding_none, noding_more, noding_last}
use Rattle.generator.proofs.nodes.write_nodes.Goals as goal

pub loop-x-init : goal.loop-x-init
loop-x-init c = noding_none _ _ _ _ _

pub loop-x-preserved : goal.loop-x-preserved
loop-x-preserved c =
    noding_more c.loop-x.invariant c.loop-x-test.true (search rules) c.write_node-count.ensures

pub returns : goal.returns
returns c = noding_last c.loop-x.invariant c.loop-x-test.false
