-- `kinds::mark::mark_word` meets its contract.
-- Assumes nothing.
use borrow.Author.Rules.{rules}
use Rattle.kinds.proofs.Marking.{mark_some, mark_none}
use Rattle.kinds.proofs.mark.mark_word.Goals as goal

pub returns-then-kind-k : goal.returns-then-kind-k
returns-then-kind-k c = search (mark_some, rules)

pub returns-else-kind-k : goal.returns-else-kind-k
returns-else-kind-k c = search (mark_none, rules)
