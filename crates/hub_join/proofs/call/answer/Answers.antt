-- `hub_join::call::answer` meets its contract. Assumes nothing.
use borrow.Author.Rules.{rules}
use Rattle.output.proofs.Frame.{passed, answer_filed, answering}
use Rattle.files.proofs.Checks.{ok_zero}
use Rattle.hub_join.specs.Join.{join_call}
use Rattle.hub_join.proofs.call.answer.Goals as goal

pub returns-in_err-check : goal.returns-in_err-check
unfolding join_call
returns-in_err-check c = search (answering, rules)

pub write-requires : goal.write-requires
unfolding join_call
write-requires c = passed (ok_zero c.in_ok-check.was) c.check.ensures (search rules) (search rules)

pub returns : goal.returns
unfolding join_call
returns c = let h = c.check.ensures in answer_filed _ _ _ _ h.is (ok_zero c.in_ok-check.was) c.write.ensures
