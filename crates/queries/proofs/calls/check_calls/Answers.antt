-- `queries::calls::check_calls` meets its contract. Assumes nothing.
use borrow.Author.Rules.{rules}
use Rattle.files.proofs.Checks.{code_some}
use Rattle.files.proofs.Ordered.{calls_listed}
use Rattle.files.proofs.Headers.{file_refused, file_passed}
use Rattle.queries.proofs.calls.check_calls.Goals as goal

pub returns-in_err-check_file : goal.returns-in_err-check_file
returns-in_err-check_file c = search (file_refused, code_some, rules)

pub returns : goal.returns
returns c =
    let listed = calls_listed c.args.bytes.now _ c.word_at.ensures c.labels-n.ensures c.check_ascending.ensures in
    search (file_passed, listed, rules)
