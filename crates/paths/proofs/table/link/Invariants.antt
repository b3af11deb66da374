-- `table::link` meets its contract. The invariant: the rows, with what the states that are left still give, are what the whole set gives. Assumes nothing.
use Rattle.paths.proofs.Operands.{Linking}
use Rattle.paths.proofs.table.link.Given as goal

abbrev pub invariant-loop-q : goal.invariant-loop-q
invariant-loop-q l = Linking l.b.begins l.initial.t l.fn.a.ends l.t l.q-iterator.0
