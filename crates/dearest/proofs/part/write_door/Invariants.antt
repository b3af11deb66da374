-- `dearest::part::write_door` meets its contract. Assumes nothing.
use mathlib.Core.List.{[], ◌∷◌}
use Prim.Native.Nat.{◌+◌}
use Rattle.files.specs.Field.{edge_word}
use Rattle.files.specs.Limits.{part_words}
use Rattle.output.proofs.Spanning.{Spanning}
use Rattle.dearest.proofs.part.write_door.Given as goal

abbrev pub invariant-loop-t : goal.invariant-loop-t
invariant-loop-t l = Spanning part_words l.initial.out l.initial.count (λ t. edge_word 0 t ∷ []) l.doors (l.doors + l.targets) l.out l.count l.t
