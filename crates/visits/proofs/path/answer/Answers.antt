-- `visits::path::answer` meets its contract. Assumes nothing.
use borrow.Author.Rules.{rules}
use mathlib.Core.Path.{refl}
use Rattle.files.proofs.Checks.{code_some}
use Rattle.visits.proofs.Visiting.{same_ready, path_refused, path_within}
use Rattle.visits.proofs.path.answer.Goals as goal

pub ask-requires : goal.ask-requires
ask-requires c = search (same_ready, rules)

pub returns-in_err-end : goal.returns-in_err-end
returns-in_err-end c =
    let a = c.args in
    path_refused a.part.now a.groups.now a.path.now c.in_err-end.ensures (search rules) (code_some c.in_err-end.field-0.0)

pub returns : goal.returns
returns c =
    let a = c.args in
    path_within a.part.now a.groups.now a.path.now c.in_ok-end.ensures refl (search rules) (search rules) c.ensure.ensures
