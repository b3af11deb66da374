-- `dearest::part::write_part` meets its contract. Assumes nothing.
use mathlib.Core.List.{map, flatten}
use borrow.Author.Rules.{rules}
use Rattle.output.proofs.Frame.{filed}
use Rattle.sets.specs.Sets.{span}
use Rattle.dearest.specs.Dearest.{dear_door, dear_part}
use Rattle.dearest.proofs.part.write_part.Goals as goal

pub returns : goal.returns
unfolding dear_part
returns c =
    let a = c.args in
    filed (flatten (map (dear_door a.doors a.targets) (span 0 a.doors))) c.close.ensures c.write_doors-count.ensures c.clear.ensures (search rules)
