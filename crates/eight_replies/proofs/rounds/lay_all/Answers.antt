-- `eight_replies::rounds::lay_all` meets its contract. Assumes nothing.
use mathlib.Core.Path.{refl, ◌∙◌}
use Rattle.eight_replies.proofs.Laying.{same_asking, files_few, laying_first, may_lay, laying_more, laying_last}
use Rattle.eight_replies.proofs.rounds.lay_all.Goals as goal

pub loop-i-init : goal.loop-i-init
loop-i-init g c =
    (laying_first _ _ refl refl refl refl (files_few c.args.paths.now c.count_files-desks.ensures) c.requires.1, refl, refl)

pub lay-s-requires : goal.lay-s-requires
lay-s-requires g c =
    let a = c.args in
    let (l, out, work) = c.loop-i.invariant in (
      same_asking c.requires.0 out work,
      may_lay (g.N.Numbered.number a.whole) a.part.now a.groups.now a.paths.now l c.loop-i-test.true c.saturating_sub-come.ensures
          (files_few a.paths.now c.count_files-desks.ensures) out,
    )

pub loop-i-preserved : goal.loop-i-preserved
loop-i-preserved g c =
    let a = c.args in
    let (l, out, work) = c.loop-i.invariant in
    let turned = rw (out, c.saturating_sub-come.ensures) at c.lay-s.ensures in
    (laying_more (g.N.Numbered.number a.whole) a.part.now a.groups.now a.paths.now l c.loop-i-test.true c.count_files-desks.ensures c.requires.0.ready turned, c.lay-s.auto.out ∙ out, c.lay-s.auto.work ∙ work)

pub returns : goal.returns
returns g c =
    let a = c.args in
    laying_last (g.N.Numbered.number a.whole) a.part.now a.groups.now a.paths.now c.loop-i.invariant.0 c.loop-i-test.false c.count_files-desks.ensures
