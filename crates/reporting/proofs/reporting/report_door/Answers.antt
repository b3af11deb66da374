-- `reporting::reporting::report_door` meets its contract. Assumes nothing.
use borrow.Author.Rules.{rules}
use native.Mathlib.Omega.{arith}
use Rattle.files.specs.Word.{words}
use Rattle.reporting.proofs.Reports.{may_report_as, door_added, door_node}
use Rattle.reporting.proofs.Length.{door_adds}
use Rattle.reporting.proofs.reporting.report_door.Goals as goal

pub report_states-requires : goal.report_states-requires
report_states-requires c =
    (may_report_as c.requires.0 (search rules), door_node _ _ c.requires.1, omega (arith, c.requires.2))

pub returns : goal.returns
returns c =
    let a = c.args in
    let report = door_added (words a.part.now) a.n a.i c.requires.0.ready c.word_at.ensures c.door_of-w.ensures c.push.ensures
    c.advance-count.ensures (search rules) c.report_states.ensures in
    (report, door_adds a.n a.i c.requires.1 report)
