-- `hub_join::call::join` meets its contract. Assumes nothing.
use borrow.Author.Rules.{rules}
use Rattle.output.proofs.Frame.{settles}
use Rattle.hub_join.proofs.call.join.Goals as goal

pub returns : goal.returns
returns c = search (settles, rules)
