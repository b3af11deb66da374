-- `dearest::call::answer` meets its contract. Assumes nothing.
use borrow.Author.Rules.{rules}
use Rattle.output.proofs.Frame.{answer_filed, answering}
use Rattle.files.proofs.Checks.{ok_zero}
use Rattle.dearest.proofs.Answering.{writable}
use Rattle.dearest.proofs.call.answer.Goals as goal

pub returns-in_err-check : goal.returns-in_err-check
returns-in_err-check c = search (answering, rules)

pub write-requires : goal.write-requires
write-requires c = writable c.check.ensures (ok_zero c.in_ok-check.was)

pub returns : goal.returns
returns c =
    let h = c.check.ensures in
    let z = ok_zero c.in_ok-check.was in
    (answer_filed _ _ _ _ h.is z c.write.ensures.0, answer_filed _ _ _ _ h.is z c.write.ensures.1)
