-- `dearest::part::write_doors` meets its contract. Assumes nothing.
use Rattle.files.specs.Limits.{part_words}
use Rattle.output.proofs.Spanning.{Spanning}
use Rattle.dearest.specs.Dearest.{dear_door}
use Rattle.dearest.proofs.part.write_doors.Given as goal

abbrev pub invariant-loop-x : goal.invariant-loop-x
invariant-loop-x l = Spanning part_words l.initial.out l.start (dear_door l.doors l.targets) 0 l.doors l.out l.count l.x
