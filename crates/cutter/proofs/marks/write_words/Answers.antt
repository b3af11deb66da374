-- `cutter::marks::write_words` meets its contract.
-- Assumes nothing.
use borrow.Author.Rules.{rules}
use Rattle.cutter.proofs.Passes.{cutting_first, cutting_one, cutting_none, cutting_last}
use Rattle.cutter.proofs.marks.write_words.Goals as goal

pub loop-w-init : goal.loop-w-init
loop-w-init c = search (cutting_first, rules)

pub loop-w-preserved-then-place : goal.loop-w-preserved-then-place
loop-w-preserved-then-place c =
    cutting_one c.loop-w.invariant c.in-Some.ensures.steps c.pass-place.ensures c.if-place.true c.mark.ensures c.push-n.ensures c.push-n.auto.out

pub loop-w-preserved : goal.loop-w-preserved
loop-w-preserved c = cutting_none c.loop-w.invariant c.in-Some.ensures.steps c.pass-place.ensures c.if-place.false

pub returns : goal.returns
returns c = search (cutting_last, rules)
