-- `cutter::targets::mark_target` meets its contract.
-- Assumes nothing.
use borrow.Author.Rules.{rules}
use Rattle.cutter.proofs.Passes.{target_added, target_none}
use Rattle.cutter.proofs.targets.mark_target.Goals as goal

pub returns-then-other-is_node : goal.returns-then-other-is_node
returns-then-other-is_node c = search (target_added, rules)

pub returns-else-other-is_node : goal.returns-else-other-is_node
returns-else-other-is_node c = search (target_none, rules)
