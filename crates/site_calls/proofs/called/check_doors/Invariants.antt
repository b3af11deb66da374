-- `site_calls::called::check_doors` meets its contract. Assumes nothing.
use Rattle.files.specs.Word.{words}
use Rattle.site_calls.proofs.Calling.{Checking}
use Rattle.site_calls.proofs.called.check_doors.Given as goal

abbrev pub invariant-loop-k : goal.invariant-loop-k
invariant-loop-k l = Checking (words l.part) (words l.calls) l.at l.k
