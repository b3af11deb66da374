-- `four_replies::call::four_replies` meets its contract. Assumes nothing.
use borrow.Author.Rules.{rules}
use Rattle.four_replies.proofs.Visits.{four_plain}
use Rattle.four_replies.proofs.call.four_replies.Goals as goal

pub returns : goal.returns
returns c = search (four_plain, rules)
