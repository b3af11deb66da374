-- `visits::numbered::ask` meets its contract. Assumes nothing.
use borrow.Author.Rules.{rules}
use native.Mathlib.Omega.{arith}
use Rattle.visits.proofs.Visiting.{asked_checked, asked_told, asked_reply, path_passed}
use Rattle.visits.proofs.numbered.ask.Goals as goal

pub returns-in_err-passed-2 : goal.returns-in_err-passed-2
returns-in_err-passed-2 g c =
    let a = c.args in
    asked_told a.out.now c.requires.1 _ c.from_residual-in_err-passed-2.ensures.0 (search rules)
    (asked_checked a.out.now c.requires.1 a.part.now a.groups.now a.path.now (omega (arith, c.in_ok-passed.ensures.said)) c.if-path-eq0.false c.check_path.ensures
    (λ e. omega (arith, c.in_err-passed-2.ensures, e)))

pub append-requires : goal.append-requires
append-requires g c =
    (path_passed c.args.path.now c.requires.0 (omega (arith, c.in_ok-passed.ensures.said)) (omega (arith, c.in_ok-passed-2.ensures.said)) c.check_path.ensures, c.requires.1)

pub returns : goal.returns
returns g c =
    let a = c.args in
    asked_reply a.part.now a.groups.now a.path.now (omega (arith, c.in_ok-passed.ensures.said)) c.if-path-eq0.false c.check_path.ensures
    (omega (arith, c.in_ok-passed-2.ensures.said)) c.append.ensures
