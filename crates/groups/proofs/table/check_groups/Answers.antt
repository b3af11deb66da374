-- `groups::table::check_groups` meets its contract. Assumes nothing.
use borrow.Author.Rules.{rules}
use Rattle.groups.proofs.Grouping.{ranging_last}
use Rattle.groups.proofs.table.check_groups.Goals as goal

pub returns : goal.returns
returns c = search (ranging_last, rules)
