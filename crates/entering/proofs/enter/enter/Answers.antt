-- `enter::enter` meets its contract. Nothing is new; the slot is a node's, which waits; or it is an outside target's. The laws are in
-- `Entering`. Assumes nothing.
use mathlib.Core.Path.{sym, ◌∙◌}
use native.Mathlib.Omega.{arith}
use Rattle.entering.proofs.Entering.{enter_none, gained_waiting, enter_outer, enter_node}
use Rattle.entering.proofs.enter.enter.Goals as goal

pub returns-then-known-clause-entered : goal.returns-then-known-clause-entered
returns-then-known-clause-entered c =
    enter_none _ _ _ c.args.s c.args.m c.args.top c.requires.0 c.requires.1 c.requires.2 _ c.get16-old.ensures (omega arith) (omega arith) (omega (arith, c.if-known.true))

pub wait-requires-clause-waiting : goal.wait-requires-clause-waiting
wait-requires-clause-waiting c =
    rw c.put16.ensures (gained_waiting _ _ _ c.args.s c.args.m c.args.top c.requires.0 c.requires.1 c.requires.2 _ c.get16-old.ensures (omega arith) (omega arith))

pub returns-then-is_node-clause-entered : goal.returns-then-is_node-clause-entered
returns-then-is_node-clause-entered c =
    enter_node _ _ _ c.args.s c.args.m c.args.top c.requires.0 c.requires.1 c.requires.2 _ c.get16-old.ensures (omega arith) (omega arith) _ (sym c.is_node.ensures ∙ c.if-is_node.true)
    (rw c.put16.ensures at c.wait.ensures.waits)

pub returns-clause-entered : goal.returns-clause-entered
returns-clause-entered c =
    rw c.put16.ensures
    (enter_outer _ _ _ c.args.s c.args.m c.args.top c.requires.0 c.requires.1 c.requires.2 _ c.get16-old.ensures (omega arith) (omega arith) (sym c.is_node.ensures ∙ c.if-is_node.false))

pub returns-clause-stacked : goal.returns-clause-stacked
returns-clause-stacked c =
    rw c.put16.ensures (gained_waiting _ _ _ c.args.s c.args.m c.args.top c.requires.0 c.requires.1 c.requires.2 _ c.get16-old.ensures (omega arith) (omega arith))
