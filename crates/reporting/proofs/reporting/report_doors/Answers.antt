-- `reporting::reporting::report_doors` meets its contract. Assumes nothing.
use native.Mathlib.Omega.{arith}
use lib.ListN.{length}
use Rattle.files.specs.Word.{words}
use Rattle.files.proofs.Words.{words_length}
use Rattle.reporting.specs.Reporting.{words_at, words_below}
use Rattle.reporting.proofs.Reports.{reports_none, reports_next, reports_end, words_next}
use Rattle.reporting.proofs.Length.{runs_first, runs_next}
use Rattle.reporting.proofs.reporting.report_doors.Goals as goal

pub loop-i-init : goal.loop-i-init
loop-i-init c =
    let a = c.args in
    (reports_none _ _ _ c.requires.0.ready, runs_first a.work.now a.n)

pub loop-i-preserved : goal.loop-i-preserved
loop-i-preserved c =
    let a = c.args in
    let ws = words a.part.now in
    let i = c.loop-i.i in
    let inv = c.loop-i.invariant in (
      reports_next (words_below ws a.n) (words_at ws a.n) i (words_next ws a.n i) inv.0 c.report_at-length.ensures.0,
      λ e. runs_next a.n i inv.0.again.kept (inv.1 e) c.report_at-length.ensures.1,
    )

pub returns : goal.returns
returns c =
    let a = c.args in
    reports_end (words_below (words a.part.now) a.n) c.loop-i.i (length (words a.part.now)) (omega (arith, words_length a.part.now, c.loop-i.auto.i-end)) c.loop-i.invariant.0
