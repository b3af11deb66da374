-- `site_second::call::second_reply` meets its contract. Assumes nothing.
use borrow.Author.Rules.{rules}
use Rattle.site_second.proofs.SecondCalls.{second_plain}
use Rattle.site_second.proofs.call.second_reply.Goals as goal

pub returns : goal.returns
returns c = search (second_plain, rules)
