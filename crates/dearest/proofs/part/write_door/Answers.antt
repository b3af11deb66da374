-- `dearest::part::write_door` meets its contract. Assumes nothing.
use mathlib.Core.Bool.{true, false}
use mathlib.Core.List.{[], ◌∷◌}
use Prim.Native.Nat.{◌+◌, ◌-◌}
use borrow.Author.Rules.{rules}
use Rattle.files.specs.Field.{node_word, edge_word}
use Rattle.sets.proofs.Spans.{each}
use Rattle.output.proofs.Writing.{behind}
use Rattle.output.proofs.Spanning.{spanning_first, spanning_word, spanning_last}
use Rattle.dearest.proofs.Writing.{door_is}
use Rattle.dearest.proofs.part.write_door.Goals as goal

pub loop-t-init : goal.loop-t-init
loop-t-init c = spanning_first (search rules)

pub loop-t-preserved : goal.loop-t-preserved
loop-t-preserved c =
    spanning_word (edge_word 0) c.loop-t.invariant c.loop-t-test.true c.edge_word.ensures (search rules) c.push-count-in-loop-t.ensures

pub returns : goal.returns
returns c =
    let a = c.args in
    rw (← door_is a.doors a.targets a.x) (behind (node_word a.x true false false ∷ []) (each (λ t. edge_word 0 t ∷ []) a.doors (a.doors + a.targets - a.doors))
    (rw c.node_word.ensures at c.push-count.ensures) (search rules) (spanning_last c.loop-t.invariant c.loop-t-test.false))
