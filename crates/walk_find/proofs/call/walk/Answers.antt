-- `call::walk` meets its contract. Assumes nothing.
use borrow.Author.Rules.{rules}
use Rattle.walk_find.proofs.Calls.{walk_plain}
use Rattle.walk_find.proofs.call.walk.Goals as goal

pub returns : goal.returns
returns c = search (walk_plain, rules)
