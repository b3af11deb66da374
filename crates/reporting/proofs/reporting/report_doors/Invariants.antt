-- `reporting::reporting::report_doors` meets its contract. Assumes nothing.
use mathlib.Core.Path.{◌≡◌}
use Rattle.files.specs.Word.{words}
use Rattle.reporting.specs.Reporting.{Reports, words_below, RunsAt}
use Rattle.reporting.proofs.reporting.report_doors.Given as goal

-- Before position i the words of the positions below it stand in the output, and from 1, the header's word, the running length is the count of
-- the words up to the door that comes next.
abbrev pub invariant-loop-i : goal.invariant-loop-i
invariant-loop-i l = Reports (words l.part) l.outside l.follow l.initial.work l.initial.out l.start l.work l.out l.length (words_below (words l.part) l.n l.i)
    × (l.start ≡ 1 → RunsAt (words l.part) l.outside l.follow l.initial.work l.n l.i l.length)
