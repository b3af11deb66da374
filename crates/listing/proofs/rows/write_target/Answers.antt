-- `listing::rows::write_target` meets its contract. Assumes nothing.
use borrow.Author.Rules.{rules}
use Rattle.listing.proofs.Answering.{number_small}
use Rattle.listing.proofs.Rowing.{target_is}
use Rattle.listing.proofs.rows.write_target.Goals as goal

pub write_pairs-requires : goal.write_pairs-requires
write_pairs-requires c = search (number_small, rules)

pub returns : goal.returns
returns c = search (target_is, rules)
