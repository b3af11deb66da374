-- `kinds::count::count_kind` meets its contract.
-- Assumes nothing.
use borrow.Author.Rules.{rules}
use Rattle.files.proofs.Counts.{counting_first, counting_one, counting_fits, counting_none, counting_last}
use Rattle.kinds.proofs.count.count_kind.Goals as goal

pub loop-w-init : goal.loop-w-init
loop-w-init c = search (counting_first, rules)

pub overflow_add-count : goal.overflow_add-count
overflow_add-count c = search (counting_fits, rules)

pub loop-w-preserved-then-is_of_kind : goal.loop-w-preserved-then-is_of_kind
loop-w-preserved-then-is_of_kind c = search (counting_one, rules)

pub loop-w-preserved : goal.loop-w-preserved
loop-w-preserved c = search (counting_none, rules)

pub returns : goal.returns
returns c = search (counting_last, rules)
