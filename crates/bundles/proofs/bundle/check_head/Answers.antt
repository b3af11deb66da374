-- `bundles::bundle::check_head` meets its contract.
-- Assumes nothing.
use borrow.Author.Rules.{rules}
use Rattle.files.proofs.Checks.{code_some, refused_first, passed_first}
use Rattle.bundles.specs.Stretch.{head_check}
use Rattle.bundles.proofs.bundle.check_head.Goals as goal

pub returns-in_err-check_header : goal.returns-in_err-check_header
unfolding head_check
returns-in_err-check_header c = search (refused_first, code_some, rules)

pub returns : goal.returns
unfolding head_check
returns c = search (passed_first, rules)
