-- `listing::rows::write_targets` meets its contract. Assumes nothing.
use borrow.Author.Rules.{rules}
use Rattle.listing.proofs.Rowing.{targets_more}
use Rattle.listing.proofs.rows.write_targets.Goals as goal

pub loop-k-preserved : goal.loop-k-preserved
loop-k-preserved c = search (targets_more, rules)
