-- `listing::rows::write_row` meets its contract. Assumes nothing.
use borrow.Author.Rules.{rules}
use Rattle.files.specs.Word.{words}
use Rattle.listing.specs.Rows.{pairs_up_to}
use Rattle.listing.proofs.Rowing.{row_is}
use Rattle.listing.proofs.rows.write_row.Goals as goal

pub returns : goal.returns
returns c =
    let a = c.args in
    row_is a.q c.row_word-w.result (pairs_up_to (words a.part.now) a.work.now a.t)
    c.row_word-w.ensures (search rules) c.push-at.ensures c.write_targets.ensures
