-- `table::link` meets its contract. Assumes nothing.
use borrow.Author.Rules.{rules}
use Rattle.paths.proofs.Operands.{linking_first, linking_more, linking_last}
use Rattle.paths.proofs.table.link.Goals as goal

pub loop-q-init : goal.loop-q-init
loop-q-init c = rw c.into_iter-q-iterator.ensures.into_iter_gives (search (linking_first, rules))

pub loop-q-preserved : goal.loop-q-preserved
loop-q-preserved c = linking_more c.loop-q.invariant c.in-Some.ensures.steps.0 c.in-Some.ensures.steps.1

pub returns : goal.returns
returns c = linking_last c.loop-q.invariant c.in-None.ensures.steps.0
