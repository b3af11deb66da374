-- `cutter::targets::mark_targets` meets its contract.
-- Assumes nothing.
use borrow.Author.Rules.{rules}
use Rattle.cutter.proofs.Passes.{marking_first, marking_more, marking_last}
use Rattle.cutter.proofs.targets.mark_targets.Goals as goal

pub loop-w-init : goal.loop-w-init
loop-w-init c = search (marking_first, rules)

pub returns : goal.returns
returns c = search (marking_last, rules)

pub loop-w-preserved : goal.loop-w-preserved
loop-w-preserved c =
    marking_more c.loop-w.invariant c.in-Some.ensures.steps c.pass-place.ensures c.mark_target.ensures c.mark_target.auto.work
