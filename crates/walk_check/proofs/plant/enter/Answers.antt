-- `walk_check::plant::enter` meets its contract. Assumes nothing.
use borrow.Author.Rules.{rules}
use Rattle.walk_check.proofs.Standing.{entered, not_entered}
use Rattle.walk_check.proofs.plant.enter.Goals as goal

pub returns-then-in_front : goal.returns-then-in_front
returns-then-in_front c = search (entered, rules)

pub returns-else-in_front : goal.returns-else-in_front
returns-else-in_front c = search (not_entered, rules)
