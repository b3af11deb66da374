-- `walk_check::call::check_walk_grouped` meets its contract. Assumes nothing.
use borrow.Author.Rules.{rules}
use lib.ListN.{length}
use Rattle.files.proofs.Checks.{code_some, ok_zero}
use Rattle.walk_check.specs.Check.{check_walk_grouped_call}
use Rattle.walk_check.proofs.Going.{all_read, call_refused, call_said}
use Rattle.walk_check.proofs.call.check_walk_grouped.Goals as goal

pub says_yes-requires : goal.says_yes-requires
says_yes-requires c =
    let args = c.args in
    all_read (length args.work.now) args.whole.now args.groups.now args.path.now c.check-outcome.ensures (ok_zero c.in-Ok.is)

pub returns-in-Ok : goal.returns-in-Ok
unfolding check_walk_grouped_call
returns-in-Ok c = search (call_said, ok_zero, rules)

pub returns-in-Err : goal.returns-in-Err
unfolding check_walk_grouped_call
returns-in-Err c = search (call_refused, code_some, rules)
