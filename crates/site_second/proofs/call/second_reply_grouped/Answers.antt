-- `site_second::call::second_reply_grouped` meets its contract. Assumes nothing.
use borrow.Author.Rules.{rules}
use Rattle.output.proofs.Frame.{settles}
use Rattle.site_second.proofs.call.second_reply_grouped.Goals as goal

pub returns : goal.returns
returns c = search (settles, rules)
