-- `from_triples::ends::add_all` meets its contract. Assumes nothing.
use Rattle.files.specs.Word.{words}
use Rattle.from_triples.proofs.Ending.{Gathering}
use Rattle.from_triples.proofs.ends.add_all.Given as goal

abbrev pub invariant-loop-i : goal.invariant-loop-i
invariant-loop-i l = Gathering (words l.triples) l.n l.initial.work l.work l.i
