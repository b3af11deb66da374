-- `scan::scan` meets its contract. The invariant: the scan of the words that are left, behind what is seen, comes to what the whole one does.
-- Assumes nothing.
use Rattle.std.proofs.Common.{◌≡◌}
use Rattle.files.specs.Scan.{scan_words}
use Rattle.files.specs.Read.{left_of}
use Rattle.files.proofs.scan.scan.Given as goal

abbrev pub invariant-loop-w : goal.invariant-loop-w
invariant-loop-w g l =
    let m = g.S.Seen in
    scan_words m.checked m.after m.ended l.seen (left_of l.w-iterator) ≡ scan_words m.checked m.after m.ended l.initial.seen (left_of l.initial.w-iterator)
