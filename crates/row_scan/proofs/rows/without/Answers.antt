-- `row_scan::rows::without` meets its contract.
-- Assumes nothing.
use Rattle.row_scan.proofs.RowWords.{without_state}
use Rattle.row_scan.proofs.rows.without.Goals as goal

pub returns : goal.returns
returns c = without_state _ _ _ _ c.with.ensures c.minus.ensures
