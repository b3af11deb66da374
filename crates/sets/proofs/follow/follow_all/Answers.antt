-- `follow::follow_all` meets its contract. The invariant: what is gathered, with what may follow the states that are left, is what may
-- follow the whole set. Assumes nothing.
use mathlib.Core.Logic.Iff
use Rattle.sets.proofs.Following.{gather, gather_none, gather_all}
use Rattle.sets.proofs.follow.follow_all.Goals as goal

pub loop-q-init : goal.loop-q-init
loop-q-init c = λ p. rw c.into_iter-q-iterator.ensures.into_iter_gives (gather_none c.args.follow c.args.set p)

pub loop-q-preserved : goal.loop-q-preserved
loop-q-preserved c = λ p. Iff.trans (gather c.args.follow c.loop-q.r c.in-Some.ensures.steps.0 c.in-Some.ensures.steps.1 p) (c.loop-q.invariant p)

pub returns : goal.returns
returns c = λ p. Iff.trans (gather_all c.args.follow c.loop-q.r c.loop-q.q-iterator.0 p c.in-None.ensures.steps.0) (c.loop-q.invariant p)
