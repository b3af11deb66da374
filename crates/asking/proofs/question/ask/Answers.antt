-- `asking::question::ask` meets its contract.
-- Assumes nothing.
use mathlib.Core.Path.{◌∙◌}
use lib.ListN.{length}
use Rattle.std.proofs.lemmas.Result.{err_from_is_err_and}
use Rattle.asking.specs.Run.{parts_in}
use Rattle.asking.proofs.Runs.{ask_ended, ask_went_on}
use Rattle.asking.proofs.question.ask.Goals as goal

pub returns-in_err-called : goal.returns-in_err-called
returns-in_err-called c =
    let a = c.args in
    let p = err_from_is_err_and c.from_residual.result c.from_residual.ensures.1 in
    rw (p.1, p.2) (ask_ended a.path.now _ (length a.list.now) (length a.work.now) (parts_in a.parts.now a.sites) _ c.in_err-called.ensures.is)

pub returns : goal.returns
returns c =
    let a = c.args in
    c.round_trip-2.ensures.is
    ∙ ask_went_on a.path.now _ (length a.list.now) (length a.work.now) (parts_in a.parts.now a.sites) _ c.in_ok-called.ensures.is
    _ _ c.round_trip.auto.list c.round_trip.auto.work
