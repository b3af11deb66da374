-- `visits::path::reply` meets its contract. Assumes nothing.
use borrow.Author.Rules.{rules}
use Rattle.visits.proofs.Visiting.{path_left}
use Rattle.visits.proofs.path.reply.Goals as goal

pub returns : goal.returns
returns c = search (path_left, rules)
