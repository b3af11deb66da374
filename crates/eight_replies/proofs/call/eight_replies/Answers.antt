-- `eight_replies::call::eight_replies` meets its contract. Assumes nothing.
use borrow.Author.Rules.{rules}
use Rattle.eight_replies.proofs.Eights.{eight_plain}
use Rattle.eight_replies.proofs.call.eight_replies.Goals as goal

pub returns : goal.returns
returns c = search (eight_plain, rules)
