-- `groups::table::check_groups` meets its contract. The invariant: a word that is no range stands among all just if one is left. Assumes nothing.
use Rattle.files.specs.Read.{left_of}
use Rattle.groups.proofs.Grouping.{Ranging}
use Rattle.groups.proofs.table.check_groups.Given as goal

abbrev pub invariant-loop-w : goal.invariant-loop-w
invariant-loop-w l = Ranging l.groups (left_of l.w-iterator)
