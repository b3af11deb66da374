-- `hub_search::enter::wait` meets its contract.
-- Assumes nothing.
use Prim.Native.Nat.{◌+◌, ◌<◌}
use native.Mathlib.Omega.{arith}
use native.Mathlib.Numerals.{add-one}
use Rattle.files.specs.Limits.{bundle_words}
use Rattle.hub_search.proofs.Entries.{wait_again, wait_room, wait_first}
use Rattle.hub_search.proofs.enter.wait.Goals.{Else-p-ne0}
use Rattle.hub_search.proofs.enter.wait.Goals as goal

-- the stack has room for it
room : (b : Else-p-ne0) → b.args.doors + b.args.top < bundle_words
room b =
    wait_room _ _ _ _ _ _ b.requires.roomy.0 b.requires.roomy.1 b.requires.waiting _ _ (rw (← add-one b.args.j) b.get16-p.ensures) b.with.ensures b.if-p-ne0.false

pub returns-then-p-ne0 : goal.returns-then-p-ne0
returns-then-p-ne0 c =
    rw (c.put16.ensures, add-one c.args.j)
    (let h = wait_again _ _ _ _ _ _ c.requires.roomy.0 c.requires.roomy.1 c.requires.waiting _ _ (rw (← add-one c.args.j) c.get16-p.ensures) c.with.ensures c.if-p-ne0.true in record { waits = h.0; still_waiting = h.1 })

pub overflow_add-doors : goal.overflow_add-doors
overflow_add-doors c = omega (arith, room (goal.at.overflow_add-doors c).Else-p-ne0)

pub put16-requires-2 : goal.put16-requires-2
put16-requires-2 c = omega (arith, room (goal.at.put16-requires-2 c).Else-p-ne0)

pub overflow_add-result : goal.overflow_add-result
overflow_add-result c = omega (arith, room (goal.at.overflow_add-result c).Else-p-ne0)

pub returns : goal.returns
returns c =
    rw (c.put16-2.ensures, c.put16.ensures, add-one c.args.j)
    (let h = wait_first _ _ _ _ _ _ c.requires.roomy.0 c.requires.roomy.1 c.requires.waiting _ _ (rw (← add-one c.args.j) c.get16-p.ensures) c.with.ensures c.if-p-ne0.false in record { waits = h.0; still_waiting = h.1 })
