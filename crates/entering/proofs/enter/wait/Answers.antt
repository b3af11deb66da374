-- `enter::wait` meets its contract. The node waits already, or goes on top of the stack; the laws are in `Entering`. Assumes nothing.
use Prim.Native.Nat.{◌+◌, ◌<◌}
use native.Mathlib.Omega.{arith}
use Rattle.files.specs.Limits.{part_words}
use Rattle.entering.proofs.Entering.{wait_again, wait_room, wait_first}
use Rattle.entering.proofs.enter.wait.Goals.{Else-pending-ne0}
use Rattle.entering.proofs.enter.wait.Goals as goal

-- the stack has room for it
room : (b : Else-pending-ne0) → b.args.outside + b.args.top < part_words
room b =
    wait_room _ _ _ _ _ _ b.requires.roomy.0 b.requires.roomy.1 b.requires.roomy.2 b.requires.roomy.3 b.requires.waiting _ b.get16-pending.ensures b.if-pending-ne0.false

pub returns-then-pending-ne0 : goal.returns-then-pending-ne0
returns-then-pending-ne0 c =
    rw c.put16.ensures
    (let h = wait_again _ _ _ _ _ _ c.requires.roomy.0 c.requires.roomy.1 c.requires.roomy.2 c.requires.roomy.3 c.requires.waiting _ c.get16-pending.ensures c.if-pending-ne0.true in record { waits = h.0; stacked = h.1 })

pub overflow_add-outside : goal.overflow_add-outside
overflow_add-outside c = omega (arith, room (goal.at.overflow_add-outside c).Else-pending-ne0)

pub put16-requires-2 : goal.put16-requires-2
put16-requires-2 c = omega (arith, room (goal.at.put16-requires-2 c).Else-pending-ne0)

pub overflow_add-result : goal.overflow_add-result
overflow_add-result c = omega (arith, room (goal.at.overflow_add-result c).Else-pending-ne0)

pub returns : goal.returns
returns c =
    rw (c.put16-2.ensures, c.put16.ensures)
    (let h = wait_first _ _ _ _ _ _ c.requires.roomy.0 c.requires.roomy.1 c.requires.roomy.2 c.requires.roomy.3 c.requires.waiting _ c.get16-pending.ensures c.if-pending-ne0.false in record { waits = h.0; stacked = h.1 })
