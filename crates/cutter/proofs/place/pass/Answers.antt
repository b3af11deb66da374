-- `cutter::place::pass` meets its contract.
-- Assumes nothing.
use borrow.Author.Rules.{rules}
use Rattle.cutter.proofs.Passes.{passed_over, passed_node, passed_edge}
use Rattle.cutter.proofs.place.pass.Goals as goal

pub returns-then-cuts-at : goal.returns-then-cuts-at
returns-then-cuts-at c = search (passed_over, rules)

pub returns-then-is_node : goal.returns-then-is_node
returns-then-is_node c = search (passed_node, rules)

pub returns : goal.returns
returns c = search (passed_edge, rules)
