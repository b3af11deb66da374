-- `queries::path::check_body` meets its contract. Assumes nothing.
use borrow.Author.Rules.{rules}
use Rattle.files.proofs.Checks.{refused_first, passed_first, code_some}
use Rattle.queries.proofs.Paths.{scan_waiting}
use Rattle.queries.proofs.path.check_body.Goals as goal

pub returns-in_err-scan : goal.returns-in_err-scan
returns-in_err-scan c = search (refused_first, code_some, scan_waiting, rules)

pub returns : goal.returns
returns c = search (passed_first, scan_waiting, rules)
