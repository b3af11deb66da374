-- `site_calls::called::seed_called` meets its contract. Assumes nothing.
use Rattle.files.specs.Word.{words}
use Rattle.site_calls.proofs.Calling.{Calling}
use Rattle.site_calls.proofs.called.seed_called.Given as goal

abbrev pub invariant-loop-k : goal.invariant-loop-k
invariant-loop-k l = Calling (words l.part) (words l.calls) l.outside l.initial.work l.work l.at l.k l.top
