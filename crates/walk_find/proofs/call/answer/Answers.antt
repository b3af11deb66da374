-- `call::answer` meets its contract. Assumes nothing.
use borrow.Author.Rules.{rules}
use Rattle.files.proofs.Checks.{code_some, ok_zero}
use Rattle.output.proofs.Frame.{passed}
use Rattle.walk_find.proofs.Answering.{answers_refused}
use Rattle.walk_find.proofs.call.answer.Goals as goal

pub returns-in_err-check : goal.returns-in_err-check
returns-in_err-check c = answers_refused _ _ _ _ _ _ _ c.in_err-check.ensures (search rules) (code_some _)

pub show-requires : goal.show-requires
show-requires c = passed (ok_zero c.in_ok-check.was) c.check.ensures (search rules) (search rules)

pub returns : goal.returns
returns c = rw c.check.auto.work at c.show.ensures
