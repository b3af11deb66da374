-- `reporting::reporting::report_row` meets its contract. Assumes nothing.
use borrow.Author.Rules.{rules}
use native.Mathlib.Omega.{arith}
use Rattle.files.specs.Word.{words}
use Rattle.reporting.proofs.Reports.{row_few, row_added, row_empty}
use Rattle.reporting.proofs.reporting.report_row.Goals as goal

pub run-requires : goal.run-requires
run-requires c =
    (c.seed-top.ensures.begun, c.seed-top.ensures.closed c.args.follow.now c.requires.0.ready.closed)

pub returns-then-empty : goal.returns-then-empty
returns-then-empty c =
    let a = c.args in
    let p = c.requires in
    row_empty (words a.part.now) a.outside a.i a.q p.0.ready p.1 p.2 c.seed-top.ensures c.run.ensures
    c.row_length-pairs.ensures (omega (arith, c.if-empty.true))

pub overflow_add-pairs : goal.overflow_add-pairs
overflow_add-pairs c =
    omega (arith, row_few c.run.ensures.begun.laid c.row_length-pairs.ensures)

pub returns : goal.returns
returns c =
    let a = c.args in
    let p = c.requires in
    row_added (words a.part.now) a.outside a.i a.q p.0.ready p.1 p.2 c.seed-top.ensures c.run.ensures
    c.row_length-pairs.ensures (λ e. omega (arith, c.if-empty.false, e)) c.write_row.ensures c.advance.ensures c.reset.ensures (search rules)
