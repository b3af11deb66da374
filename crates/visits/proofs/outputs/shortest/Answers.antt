-- `visits::outputs::shortest` meets its contract. Assumes nothing.
use Rattle.visits.proofs.Visiting.{shortest_two}
use Rattle.visits.proofs.outputs.shortest.Goals as goal

pub returns : goal.returns
returns c = let a = c.args in rw (c.min-3.ensures, shortest_two, c.min-2.ensures, shortest_two, c.min.ensures, shortest_two)
