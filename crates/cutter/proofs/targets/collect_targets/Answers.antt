-- `cutter::targets::collect_targets` meets its contract.
-- Assumes nothing.
use borrow.Author.Rules.{rules}
use Rattle.cutter.proofs.Passes.{targets_collected}
use Rattle.cutter.proofs.targets.collect_targets.Goals as goal

pub returns : goal.returns
returns c = search (targets_collected, rules)
