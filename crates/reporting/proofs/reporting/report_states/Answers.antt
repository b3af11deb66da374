-- `reporting::reporting::report_states` meets its contract. Assumes nothing.
use Prim.Native.Nat.{◌+◌}
use native.Mathlib.Omega.{arith}
use Rattle.files.specs.Word.{words}
use Rattle.reporting.specs.Reporting.{row_at, rows_below}
use Rattle.reporting.proofs.Reports.{reports_next, reports_end, rows_next}
use Rattle.reporting.proofs.reporting.report_states.Goals as goal

pub loop-q-preserved : goal.loop-q-preserved
loop-q-preserved c =
    let a = c.args in
    let ws = words a.part.now in
    let q = c.loop-q.q in
    reports_next (rows_below ws a.i) (row_at ws a.i) q (rows_next ws a.i q) c.loop-q.invariant c.report_row-count.ensures

pub returns-2 : goal.returns-2
returns-2 c =
    let a = c.args in
    let ws = words a.part.now in
    let q = c.loop-q.q in
    let h = c.loop-q-test in
    reports_end (rows_below ws a.i) (q + 1) (a.n + 1) (omega arith)
    (reports_next (rows_below ws a.i) (row_at ws a.i) q (rows_next ws a.i q) c.loop-q.invariant c.report_row-count.ensures)
