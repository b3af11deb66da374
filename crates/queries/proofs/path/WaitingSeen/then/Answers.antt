-- `queries::path::Waiting` as what was seen: what is seen behind a word meets its contract. Assumes nothing.
use mathlib.Core.Path.{sym, ◌∙◌}
use native.Mathlib.Omega.{arith}
use Rattle.queries.proofs.Paths.{waits_some}
use Rattle.queries.proofs.path.WaitingSeen.then.Goals as goal

pub overflow_sub-result : goal.overflow_sub-result
overflow_sub-result c =
    let w = c.args.w in
    let (h, k) = waits_some c.args.self.0 w c.requires in
    omega (arith, h, c.takes.ensures w (sym c.read_expr.ensures ∙ c.in-Ok.is))

pub overflow_add-result : goal.overflow_add-result
overflow_add-result c =
    let w = c.args.w in
    let (h, k) = waits_some c.args.self.0 w c.requires in
    record { fits = omega (arith, k, c.takes.ensures w (sym c.read_expr.ensures ∙ c.in-Ok.is)) }
