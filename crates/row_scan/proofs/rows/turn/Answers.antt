-- `row_scan::rows::turn` meets its contract.
-- Assumes nothing.
use Rattle.row_scan.proofs.RowWords.{turns_row, turns_none}
use Rattle.row_scan.proofs.rows.turn.Goals as goal

pub returns-then-is_row : goal.returns-then-is_row
returns-then-is_row c =
    turns_row c.is_row.ensures c.if-is_row.true c.state-q.ensures c.without.ensures c.has.ensures

pub returns : goal.returns
returns c = turns_none c.is_row.ensures c.if-is_row.false
