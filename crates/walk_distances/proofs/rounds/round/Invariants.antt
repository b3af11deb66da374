-- `rounds::round` meets its contract. The invariant: the first k nodes of the list that is read are visited. Assumes nothing.
use Rattle.files.specs.Word.{words}
use Rattle.walk_distances.proofs.Passing.{Rounding}
use Rattle.walk_distances.proofs.rounds.round.Given as goal

abbrev pub invariant-loop-k : goal.invariant-loop-k
invariant-loop-k l = Rounding (words l.asked.whole.now) l.asked.automaton l.from l.to l.v l.initial.work l.work l.initial.out l.out l.top l.k
