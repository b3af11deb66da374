-- `links::Asked::link` meets its contract. The invariant: the edge words before x have their rows. Assumes nothing.
use Rattle.files.specs.Word.{words}
use Rattle.walk_links.specs.Tables.{Linking}
use Rattle.walk_links.proofs.links.Asked.link.Given as goal

abbrev pub invariant-loop-x : goal.invariant-loop-x
invariant-loop-x l = Linking (words l.self.whole.now) l.self.automaton l.work l.out l.x
