-- `reporting::reporting::report_states` meets its contract. Assumes nothing.
use Rattle.files.specs.Word.{words}
use Rattle.reporting.specs.Reporting.{Reports, rows_below}
use Rattle.reporting.proofs.reporting.report_states.Given as goal

abbrev pub invariant-loop-q : goal.invariant-loop-q
invariant-loop-q l = Reports (words l.part) l.outside l.follow l.initial.work l.initial.out l.start l.work l.out l.count (rows_below (words l.part) l.i l.q)
