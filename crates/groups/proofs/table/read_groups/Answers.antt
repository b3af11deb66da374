-- `groups::table::read_groups` meets its contract. Assumes nothing.
use borrow.Author.Rules.{rules}
use Rattle.groups.proofs.Grouping.{eight_words}
use Rattle.groups.proofs.table.read_groups.Goals as goal

pub returns : goal.returns
returns c = search (eight_words, rules)
