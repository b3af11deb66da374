-- `site_calls::called::advance` meets its contract. Assumes nothing.
use Rattle.files.specs.Word.{words}
use Rattle.site_calls.proofs.Calling.{Below}
use Rattle.site_calls.proofs.called.advance.Given as goal

abbrev pub invariant-loop-i : goal.invariant-loop-i
invariant-loop-i l = Below (words l.part) l.from l.x l.i
