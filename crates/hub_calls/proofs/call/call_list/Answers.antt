-- `hub_calls::call::call_list` meets its contract. Assumes nothing.
use borrow.Author.Rules.{rules}
use Rattle.output.proofs.Frame.{settles}
use Rattle.hub_calls.proofs.call.call_list.Goals as goal

pub returns : goal.returns
returns c = search (settles, rules)
