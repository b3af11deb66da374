-- `rows::having` meets its contract. Assumes nothing.
use Rattle.std.proofs.Common.{rules}
use Rattle.walk_rows.proofs.Cells.{gathered}
use Rattle.walk_rows.proofs.rows.having.Goals as goal

pub returns : goal.returns
returns c = gathered _ _ (λ q l. search (c.gather.ensures.tested q l, rules)) c.gather.ensures.others
