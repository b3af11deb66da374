-- `visits::path::ask` meets its contract. Assumes nothing.
use borrow.Author.Rules.{rules}
use Rattle.files.proofs.Checks.{code_some, ok_zero}
use Rattle.visits.proofs.Visiting.{asked_refused, path_passed}
use Rattle.visits.proofs.path.ask.Goals as goal

pub returns-in_err-check_path : goal.returns-in_err-check_path
returns-in_err-check_path c =
    let a = c.args in
    asked_refused a.out.now c.requires.1 _ a.part.now a.groups.now a.path.now (ok_zero c.in_ok-whole.was) c.if-path-eq0.false c.in_err-check_path.ensures
    (code_some _) c.from_residual-in_err-check_path.ensures.0 (search rules)

pub append-requires : goal.append-requires
append-requires c = (path_passed c.args.path.now c.requires.0 (ok_zero c.in_ok-whole.was) (ok_zero c.in_ok-check_path.was) c.check_path.ensures, c.requires.1)
