-- `visits::numbered::answer` meets its contract. Assumes nothing.
use borrow.Author.Rules.{rules}
use mathlib.Core.Path.{refl, ◌∙◌}
use Rattle.visits.proofs.Visiting.{same_ready, path_answered, then_none}
use Rattle.visits.proofs.numbered.answer.Goals as goal

pub ask-requires : goal.ask-requires
ask-requires g c = search (same_ready, rules)

pub returns-in_err-end : goal.returns-in_err-end
returns-in_err-end g c =
    let a = c.args in
    path_answered a.part.now a.groups.now a.path.now c.in_err-end.ensures (search rules) (search rules) refl (search rules ∙ then_none _)

pub returns : goal.returns
returns g c =
    let a = c.args in
    path_answered a.part.now a.groups.now a.path.now c.in_ok-end.ensures (search rules) (search rules) c.ensure.ensures c.passed.ensures.said
