-- `prepare::idle_behind` meets its contract. Assumes nothing.
use borrow.Author.Rules.{rules}
use Rattle.preparing.proofs.Preparing.{idle_node, idle_other}
use Rattle.preparing.proofs.prepare.idle_behind.Goals as goal

pub returns-then-is_node : goal.returns-then-is_node
returns-then-is_node c = search (idle_node, rules)

pub returns : goal.returns
returns c = search (idle_other, rules)
