-- `generator::nodes::write_nodes` meets its contract. Assumes nothing.
use Rattle.generator.proofs.Writing.{Noding}
use Rattle.generator.proofs.nodes.write_nodes.Given as goal

abbrev pub invariant-loop-x : goal.invariant-loop-x
invariant-loop-x l = Noding l.counts.nodes l.counts.edges l.initial.generator.state l.initial.out l.start l.out l.count l.generator.state l.x
