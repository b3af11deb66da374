-- `rows::preceding` meets its contract. Assumes nothing.
use native.Mathlib.Omega.{arith}
use Rattle.std.proofs.Common.{rules, get_or}
use Rattle.walk_rows.proofs.Cells.{meets, gathered}
use Rattle.walk_rows.proofs.rows.preceding.Goals as goal

pub returns : goal.returns
returns c = gathered _ _ (λ q l. rw (← meets (get_or c.args.follow q 0) c.args.f (omega arith)) (search (c.gather.ensures.tested q l, rules))) c.gather.ensures.others
