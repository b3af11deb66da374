-- `walk_choice::choosing::Rows::write_links` meets its contract. Assumes nothing.
use Rattle.files.specs.Word.{words}
use Rattle.walk_choice.proofs.Picking.{Writings}
use Rattle.walk_choice.proofs.choosing.Rows.write_links.Given as goal

abbrev pub invariant-loop-left : goal.invariant-loop-left
invariant-loop-left l = Writings (words l.self.asked.whole.now) l.self.asked.automaton l.self.work.now l.root l.d l.initial.out l.start l.out l.n l.i l.s l.left
