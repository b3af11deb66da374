-- `asking::question::round_trip` meets its contract.
-- Assumes nothing.
use mathlib.Core.Path.{refl, ◌∙◌}
use lib.ListN.{length, take}
use Rattle.std.proofs.lemmas.Result.{err_from_is_err_and}
use Rattle.asking.specs.Run.{parts_in}
use Rattle.asking.proofs.Runs.{round_ended, round_went_on}
use Rattle.asking.proofs.question.round_trip.Goals as goal

pub returns-in_err-end-clause-is : goal.returns-in_err-end-clause-is
returns-in_err-end-clause-is c =
    let a = c.args in
    let p = err_from_is_err_and c.from_residual.result c.from_residual.ensures.1 in
    rw (p.1, p.2) (round_ended a.trip a.path.now (take a.called a.list.now) (length a.list.now) (length a.work.now) (parts_in a.parts.now a.sites) _ c.in_err-end.ensures.is)

pub returns-clause-is : goal.returns-clause-is
returns-clause-is c =
    let a = c.args in
    c.hub_file.ensures.is
    ∙ round_went_on a.trip a.path.now (take a.called a.list.now) (length a.list.now) (length a.work.now) (parts_in a.parts.now a.sites)
    _ c.in_ok-end.ensures.is _ _ refl c.gather.auto.work
