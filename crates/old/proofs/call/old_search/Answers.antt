-- `old::call::old_search` meets its contract. Assumes nothing.
use borrow.Author.Rules.{rules}
use Rattle.old.proofs.OldCalls.{old_plain}
use Rattle.old.proofs.call.old_search.Goals as goal

pub returns : goal.returns
returns c = search (old_plain, rules)
