-- `cutter::call::cut` meets its contract. Assumes nothing.
use borrow.Author.Rules.{rules}
use Rattle.output.proofs.Frame.{settles}
use Rattle.cutter.proofs.call.cut.Goals as goal

pub returns : goal.returns
returns c = search (settles, rules)
