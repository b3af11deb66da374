-- `site_first::call::first_reply` meets its contract. Assumes nothing.
use borrow.Author.Rules.{rules}
use Rattle.site_first.proofs.FirstCalls.{first_plain}
use Rattle.site_first.proofs.call.first_reply.Goals as goal

pub returns : goal.returns
returns c = search (first_plain, rules)
