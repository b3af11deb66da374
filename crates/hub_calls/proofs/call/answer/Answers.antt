-- `hub_calls::call::answer` meets its contract. Assumes nothing.
use borrow.Author.Rules.{rules}
use lib.ListN.{length}
use mathlib.Core.Path.{◌≡◌}
use Rattle.output.proofs.Frame.{passed, answer_filed, answering}
use Rattle.files.proofs.Checks.{ok_zero}
use Rattle.hub_calls.specs.CallList.{call_list_call}
use Rattle.hub_calls.proofs.call.answer.Goals as goal

pub returns-in_err-doors : goal.returns-in_err-doors
unfolding call_list_call
returns-in_err-doors c = search (answering, rules)

pub write-requires-clause-passed : goal.write-requires-clause-passed
write-requires-clause-passed c = passed (ok_zero c.in_ok-doors.was) c.check.ensures.checked (search rules) (search rules)

pub returns : goal.returns
unfolding call_list_call
returns c =
    let same : length c.args.out.now ≡ length c.check.new.out = search rules in
    let h = c.check.ensures.checked in
    answer_filed _ _ _ _ h.is (ok_zero c.in_ok-doors.was) (rw same c.write.ensures)
