-- `output::settle::withhold` meets its contract. Assumes nothing.
use borrow.Author.Rules.{rules}
use Rattle.output.proofs.Settling.{withheld_refused, withheld_passed}
use Rattle.output.proofs.settle.withhold.Goals as goal

pub returns-then-refused : goal.returns-then-refused
returns-then-refused g c = search (withheld_refused, rules)

pub returns-else-refused : goal.returns-else-refused
returns-else-refused g c = search (withheld_passed, rules)
