-- `walk_check::plant::in_front` meets its contract. Assumes nothing.
use Rattle.sets.specs.Sets.{member}
use Rattle.files.specs.Read.{left_of}
use Rattle.files.specs.Part.{front}
use Rattle.walk_check.proofs.Standing.{Fronting}
use Rattle.walk_check.proofs.plant.in_front.Given as goal

abbrev pub invariant-loop-v : goal.invariant-loop-v
invariant-loop-v l = Fronting l.w (member l.w (front (left_of l.initial.v-iterator))) (left_of l.v-iterator)
