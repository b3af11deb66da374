-- `site_calls::called::seed_called` meets its contract. Assumes nothing.
use borrow.Author.Rules.{rules}
use native.Mathlib.Omega.{arith}
use Rattle.files.proofs.Words.{words_length}
use Rattle.site_calls.proofs.Calling.{calling_none, calling_more, calling_all}
use Rattle.site_calls.proofs.called.seed_called.Goals as goal

pub loop-k-init : goal.loop-k-init
loop-k-init c = search (calling_none, rules)

pub loop-k-preserved : goal.loop-k-preserved
loop-k-preserved c =
    calling_more c.requires.0 (omega (arith, words_length c.args.calls.now)) c.call_node-x.ensures.0 c.call_node-x.ensures.1 c.loop-k.invariant
    c.advance-at.ensures c.seed_call-top.ensures

pub returns : goal.returns
returns c = calling_all (omega (arith, words_length c.args.calls.now)) c.loop-k.invariant
