-- `eight_replies::rounds::choose_rest` meets its contract. Assumes nothing.
use borrow.Author.Rules.{rules}
use native.Mathlib.Omega.{arith}
use Rattle.eight_replies.proofs.Laying.{same_asking, may_choose, stood_more, stood_last}
use Rattle.eight_replies.proofs.rounds.choose_rest.Goals as goal

pub choose-s-requires : goal.choose-s-requires
choose-s-requires g c =
    let a = c.args in
    let (d, out, work) = c.loop-s.invariant in
    (same_asking c.requires.0 out work, may_choose (g.N.Numbered.number a.whole) a.part.now a.groups.now a.paths.now d (omega (arith, c.loop-s-test.true)) out)

pub loop-s-preserved : goal.loop-s-preserved
loop-s-preserved g c =
    let a = c.args in
    let (d, out, work) = c.loop-s.invariant in
    let turned = rw out at c.choose-s.ensures in
    (stood_more (g.N.Numbered.number a.whole) a.part.now a.groups.now a.paths.now d (omega (arith, c.loop-s-test.true)) c.requires.0.ready turned, search rules, search rules)

pub returns : goal.returns
returns g c =
    let a = c.args in
    stood_last (g.N.Numbered.number a.whole) a.part.now a.groups.now a.paths.now c.loop-s.invariant.0 (omega (arith, c.loop-s-test.false))
