-- `walk_choice::choosing::Rows::first_open` meets its contract. The invariant: the edge words before x do not open. Assumes nothing.
use Rattle.files.specs.Word.{words}
use Rattle.walk_choice.proofs.Picking.{Passing}
use Rattle.walk_choice.proofs.choosing.Rows.first_open.Given as goal

abbrev pub invariant-loop-x : goal.invariant-loop-x
invariant-loop-x l = Passing (words l.self.asked.whole.now) l.self.asked.automaton l.self.work.now l.u l.v l.i l.x
