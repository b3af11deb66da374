-- `visits::numbered::reply` meets its contract. Assumes nothing.
use borrow.Author.Rules.{rules}
use Rattle.visits.proofs.Visiting.{path_left}
use Rattle.visits.proofs.numbered.reply.Goals as goal

pub returns : goal.returns
returns g c = rw c.number.ensures (search (path_left, rules))
