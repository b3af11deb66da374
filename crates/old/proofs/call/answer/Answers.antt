-- `old::call::answer` meets its contract. Assumes nothing.
use borrow.Author.Rules.{rules}
use Rattle.output.proofs.Frame.{passed, answer_filed, answering}
use Rattle.files.proofs.Checks.{ok_zero}
use Rattle.old.specs.Old.{old_search_grouped_call}
use Rattle.old.proofs.call.answer.Goals as goal

pub returns-in_err-check : goal.returns-in_err-check
unfolding old_search_grouped_call
returns-in_err-check c = search (answering, rules)

pub write-requires : goal.write-requires
unfolding old_search_grouped_call
write-requires c = passed (ok_zero c.in_ok-check.was) c.check.ensures (search rules) (search rules)

pub returns : goal.returns
unfolding old_search_grouped_call
returns c = let h = c.check.ensures in answer_filed _ _ _ _ h.is (ok_zero c.in_ok-check.was) c.write.ensures
