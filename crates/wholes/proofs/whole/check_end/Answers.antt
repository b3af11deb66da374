-- `wholes::whole::check_end` meets its contract.
-- Assumes nothing.
use borrow.Author.Rules.{rules}
use Rattle.files.proofs.Checks.{code_some}
use Rattle.wholes.proofs.Wholes.{no_root, end_checked}
use Rattle.wholes.proofs.whole.check_end.Goals as goal

pub returns-in_err-ensure : goal.returns-in_err-ensure
returns-in_err-ensure c = search (no_root, code_some, rules)

pub returns : goal.returns
returns c = end_checked c.args.bytes.now _ _ c.clear.ensures c.mark_kind.ensures c.has_lost.ensures c.count_kind-roots.ensures c.in_ok-ensure.ensures c.ensure-2.ensures
