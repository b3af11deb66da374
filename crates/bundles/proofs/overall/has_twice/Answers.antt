-- `bundles::overall::has_twice` meets its contract.
-- Assumes nothing.
use borrow.Author.Rules.{rules}
use Rattle.bundles.proofs.Repeats.{repeating_first, repeating_more}
use Rattle.bundles.proofs.overall.has_twice.Goals as goal

pub loop-w-init : goal.loop-w-init
loop-w-init c = search (repeating_first, rules)

pub loop-w-preserved-then-kind-k : goal.loop-w-preserved-then-kind-k
loop-w-preserved-then-kind-k c = repeating_more c.loop-w.invariant c.in-Some.ensures.steps c.kind.ensures c.if-kind-k.true c.node-x.ensures c.has.ensures c.if-has.false c.add.ensures
