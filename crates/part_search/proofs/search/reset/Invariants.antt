-- `search::reset` meets its contract. The invariant: the positions below i have no marks. Assumes nothing.
use Rattle.files.specs.Word.{words}
use Rattle.part_search.proofs.Seeding.{Forgetting}
use Rattle.part_search.proofs.search.reset.Given as goal

abbrev pub invariant-loop-i : goal.invariant-loop-i
invariant-loop-i l = Forgetting (words l.part) l.outside l.initial.work l.work l.i
