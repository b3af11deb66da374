-- `walk_check::call::leads` meets its contract. Assumes nothing.
use Rattle.files.specs.Word.{words}
use Rattle.files.specs.Read.{left_of}
use Rattle.walk_check.proofs.Going.{Going}
use Rattle.walk_check.proofs.call.leads.Given as goal

abbrev pub invariant-loop-w : goal.invariant-loop-w
invariant-loop-w l = Going l.a (words l.whole) l.node l.root l.walk l.x l.s (left_of l.at) (left_of l.w-iterator)
