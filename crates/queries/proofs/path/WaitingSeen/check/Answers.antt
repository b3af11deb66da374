-- `queries::path::Waiting` as what was seen: the check of a word meets its contract. Assumes nothing.
use mathlib.Core.Path.{sym, ◌∙◌}
use Rattle.queries.proofs.Paths.{word_right}
use Rattle.queries.proofs.path.WaitingSeen.check.Goals as goal

pub returns : goal.returns
returns c =
    let w = c.args.w in
    let e = sym c.read_expr.ensures ∙ c.in_ok-e.was in
    word_right c.args.self.0 w e (c.takes.ensures w e) c.check_waiting.ensures
