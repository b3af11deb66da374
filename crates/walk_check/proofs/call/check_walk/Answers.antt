-- `walk_check::call::check_walk` meets its contract. Assumes nothing.
use borrow.Author.Rules.{rules}
use Rattle.walk_check.proofs.Going.{check_plain}
use Rattle.walk_check.proofs.call.check_walk.Goals as goal

pub returns : goal.returns
returns c = search (check_plain, rules)
