-- `groups::table::our_groups` meets its contract. Assumes nothing.
use borrow.Author.Rules.{rules}
use Rattle.groups.proofs.Grouping.{eight_put}
use Rattle.groups.proofs.table.our_groups.Goals as goal

pub returns : goal.returns
returns c = search (eight_put, rules)
