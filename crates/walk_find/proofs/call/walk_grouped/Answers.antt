-- `call::walk_grouped` meets its contract. Assumes nothing.
use borrow.Author.Rules.{rules}
use Rattle.output.proofs.Frame.{settles}
use Rattle.walk_find.proofs.call.walk_grouped.Goals as goal

pub returns : goal.returns
returns c = search (settles, rules)
