-- `dearest::path::write_ranges` meets its contract. Assumes nothing.
use Prim.Native.Nat.{◌+◌}
use Rattle.files.specs.Limits.{path_words}
use Rattle.output.proofs.Spanning.{Spanning}
use Rattle.dearest.specs.Answer.{range_of}
use Rattle.dearest.proofs.path.write_ranges.Given as goal

abbrev pub invariant-loop-k : goal.invariant-loop-k
invariant-loop-k l = Spanning path_words l.initial.out l.start range_of 1 (l.labels + 1) l.out l.count l.k
