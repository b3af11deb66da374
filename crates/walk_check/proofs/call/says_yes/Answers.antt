-- `walk_check::call::says_yes` meets its contract. Assumes nothing.
use borrow.Author.Rules.{rules}
use Rattle.walk_check.proofs.Going.{says, says_not}
use Rattle.walk_check.proofs.call.says_yes.Goals as goal

pub returns-then-laid_out : goal.returns-then-laid_out
returns-then-laid_out c = search (says, rules)

pub returns : goal.returns
returns c = search (says_not, rules)
