-- `reporting::reporting::report_at` meets its contract. Assumes nothing.
use Prim.Native.Nat.{◌<◌}
use native.Mathlib.Omega.{arith}
use Rattle.files.specs.Word.{words}
use Rattle.files.specs.Limits.{reply_words}
use Rattle.reporting.specs.Reporting.{words_at}
use Rattle.reporting.proofs.Reports.{over_added, here_some, here_none, door_read}
use Rattle.reporting.proofs.Length.{runs_door, runs_other, runs_over}
use Rattle.reporting.proofs.reporting.report_at.Goals as goal

pub returns-then-over : goal.returns-then-over
returns-then-over c =
    let a = c.args in
    let over : reply_words < a.start = omega (arith, c.if-over.true) in
    (over_added (words_at (words a.part.now) a.n a.i) c.requires.0.ready over, runs_over a.work.now a.n a.i a.start over)

pub returns-then-is_door : goal.returns-then-is_door
returns-then-is_door c =
    let a = c.args in
    let ws = words a.part.now in
    let some = door_read ws a.i c.word_at.ensures c.is_door.ensures c.if-is_door.true in
    (here_some ws a.n a.i some c.report_door.ensures.0, runs_door a.n a.i some c.report_door.ensures.1)

pub returns : goal.returns
returns c =
    let a = c.args in
    let ws = words a.part.now in
    let none = door_read ws a.i c.word_at.ensures c.is_door.ensures c.if-is_door.false in
    (here_none ws a.n a.i none c.requires.0.ready, runs_other a.work.now a.n a.i a.start none)
