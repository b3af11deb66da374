-- `site_calls::called::advance` meets its contract. Assumes nothing.
use native.Mathlib.Omega.{arith}
use Rattle.files.proofs.Words.{words_length}
use Rattle.site_calls.proofs.Calling.{advanced_end}
use Rattle.site_calls.proofs.called.advance.Goals as goal

pub returns : goal.returns
returns c = advanced_end (omega (arith, words_length c.args.part.now, c.loop-i-test.false)) (omega (arith, words_length c.args.part.now)) c.loop-i.invariant
