-- `rounds::visit` meets its contract. The invariant: the edge words into the node behind x are handled, and x is the next of them or 0. Assumes nothing.
use Rattle.files.specs.Word.{words}
use Rattle.walk_distances.proofs.Chaining.{Visiting}
use Rattle.walk_distances.proofs.rounds.visit.Given as goal

abbrev pub invariant-loop-x : goal.invariant-loop-x
invariant-loop-x l = Visiting (words l.asked.whole.now) l.asked.automaton l.to l.v l.i l.initial.work l.work l.initial.out l.out l.top l.x

abbrev pub decreases-loop-x : goal.decreases-loop-x
decreases-loop-x l = l.x
