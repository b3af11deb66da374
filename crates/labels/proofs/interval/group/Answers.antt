-- `interval::group` meets its contract. Assumes nothing.
use borrow.Author.Rules.{rules}
use Rattle.labels.proofs.Intervals.{group_ends, no_group}
use Rattle.labels.proofs.interval.group.Goals as goal

pub returns-then-at-groups : goal.returns-then-at-groups
returns-then-at-groups c = search (group_ends, rules)

pub returns-else-at-groups : goal.returns-else-at-groups
returns-else-at-groups c = search (no_group, rules)
