-- `generator::nodes::write_node` meets its contract. Assumes nothing.
use borrow.Author.Rules.{rules}
use Rattle.generator.proofs.Writing.{node_written}
use Rattle.generator.proofs.nodes.write_node.Goals as goal

pub returns : goal.returns
returns c =
    let a = c.args in
    node_written a.counts.nodes a.counts.edges a.x a.generator.now.state _ _ c.gather-different.ensures c.node_word.ensures (search rules) c.push-count.ensures c.write_words.ensures
