-- `automaton::position_automaton` meets its contract. The invariant: the words that are left make of what is built the automaton of the whole
-- path. Assumes nothing.
use Rattle.files.specs.Read.{left_of}
use Rattle.paths.proofs.Words.{Reading}
use Rattle.paths.proofs.automaton.position_automaton.Given as goal

abbrev pub invariant-loop-w : goal.invariant-loop-w
invariant-loop-w l = Reading l.g l.path (left_of l.w-iterator) l.b
