-- `generator::call::write` meets its contract. Assumes nothing.
use mathlib.Core.List.{map, flatten}
use borrow.Author.Rules.{rules}
use Rattle.sets.specs.Sets.{span}
use Rattle.output.proofs.Frame.{filed}
use Rattle.draws.specs.Draws.{drawn}
use Rattle.generator.specs.Generate.{node_drawn, generated}
use Rattle.generator.proofs.call.write.Goals as goal

pub returns : goal.returns
unfolding generated
returns c =
    let a = c.args in
    let nodes = flatten (map (node_drawn (drawn a.generator.now.state) a.counts.nodes a.counts.edges) (span 0 a.counts.nodes)) in
    (filed nodes c.close.ensures c.write_nodes-count.ensures.0 c.clear.ensures (search rules), c.write_nodes-count.ensures.1)
