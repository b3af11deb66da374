-- `interval::resolve` meets its contract. Assumes nothing.
use borrow.Author.Rules.{rules}
use Rattle.labels.proofs.Intervals.{case_set, group_set}
use Rattle.labels.proofs.interval.resolve.Goals as goal

pub returns-in-Range : goal.returns-in-Range
returns-in-Range c = search (case_set, rules)

pub returns-in-Group : goal.returns-in-Group
returns-in-Group c = search (group_set, rules)

pub returns-in-Outside : goal.returns-in-Outside
returns-in-Outside c = search (case_set, rules)
