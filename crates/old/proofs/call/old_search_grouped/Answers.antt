-- `old::call::old_search_grouped` meets its contract. Assumes nothing.
use borrow.Author.Rules.{rules}
use Rattle.output.proofs.Frame.{settles}
use Rattle.old.proofs.call.old_search_grouped.Goals as goal

pub returns : goal.returns
returns c = search (settles, rules)
