-- `walk_check::call::leads` meets its contract. Assumes nothing.
use borrow.Author.Rules.{rules}
use Rattle.walk_check.specs.Checker.{goes}
use Rattle.walk_check.proofs.Going.{going_first, going_more, going_last, going_out}
use Rattle.walk_check.proofs.call.leads.Goals as goal

pub loop-w-init : goal.loop-w-init
unfolding goes
loop-w-init c = going_first _ _ _ _ _ c.in-Some.at c.behind.ensures c.in-Some.is (search rules)

pub returns-in-None-enter : goal.returns-in-None-enter
unfolding goes
returns-in-None-enter c = search (going_out, rules)

pub loop-w-preserved : goal.loop-w-preserved
unfolding goes
loop-w-preserved c =
    going_more c.loop-w.invariant (search rules) c.enter.ensures c.in-Some-enter.next c.in-Some-enter.is c.label.ensures c.advance-s.ensures c.target-x.ensures

pub returns : goal.returns
unfolding goes
returns c = search (going_last, rules)
