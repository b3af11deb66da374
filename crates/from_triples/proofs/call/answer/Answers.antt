-- `from_triples::call::answer` meets its contract. Assumes nothing.
use borrow.Author.Rules.{rules}
use Rattle.output.proofs.Frame.{passed, answer_filed, answering}
use Rattle.files.proofs.Checks.{ok_zero}
use Rattle.from_triples.specs.From.{from_call}
use Rattle.from_triples.proofs.call.answer.Goals as goal

pub returns-in_err-check : goal.returns-in_err-check
unfolding from_call
returns-in_err-check c = search (answering, rules)

pub write-requires : goal.write-requires
unfolding from_call
write-requires c = passed (ok_zero c.in_ok-check.was) c.check.ensures (search rules) (search rules)

pub returns : goal.returns
unfolding from_call
returns c = let h = c.check.ensures in answer_filed _ _ _ _ h.is (ok_zero c.in_ok-check.was) c.write.ensures
