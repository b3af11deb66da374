-- `output::pairs::write_pairs` meets its contract. Assumes nothing.
use Rattle.output.proofs.Spelling.{Spelling}
use Rattle.output.proofs.pairs.write_pairs.Given as goal

abbrev pub invariant-loop-q : goal.invariant-loop-q
invariant-loop-q l = Spelling l.limit l.kind l.x l.set l.initial.out l.start l.out l.count l.q-iterator.0
