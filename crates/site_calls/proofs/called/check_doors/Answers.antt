-- `site_calls::called::check_doors` meets its contract. Assumes nothing.
use native.Mathlib.Omega.{arith}
use Rattle.files.proofs.Words.{words_length}
use Rattle.site_calls.proofs.Calling.{checking_more, checking_refused, checking_all}
use Rattle.site_calls.proofs.called.check_doors.Goals as goal

pub returns-then-shut : goal.returns-then-shut
returns-then-shut c =
    checking_refused c.requires.0 c.requires.1 (omega (arith, words_length c.args.calls.now)) c.call_node-x.ensures.0 c.call_node-x.ensures.1
    c.loop-k.invariant c.advance-at.ensures c.shut.ensures c.if-shut.true

pub loop-k-preserved : goal.loop-k-preserved
loop-k-preserved c =
    checking_more c.requires.0 c.requires.1 (omega (arith, words_length c.args.calls.now)) c.call_node-x.ensures.0 c.call_node-x.ensures.1
    c.loop-k.invariant c.advance-at.ensures c.shut.ensures c.if-shut.false

pub returns : goal.returns
returns c =
    checking_all c.requires.0 (omega (arith, words_length c.args.calls.now)) c.loop-k.invariant
