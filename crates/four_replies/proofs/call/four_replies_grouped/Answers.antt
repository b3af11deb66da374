-- `four_replies::call::four_replies_grouped` meets its contract. Assumes nothing.
use borrow.Author.Rules.{rules}
use Rattle.four_replies.proofs.Visits.{visit_ready, visit_settled}
use Rattle.four_replies.proofs.call.four_replies_grouped.Goals as goal

pub replies-numbers-requires : goal.replies-numbers-requires
replies-numbers-requires c =
    visit_ready _ c.check-whole.ensures c.shortest-out.ensures (search rules)

pub returns : goal.returns
returns c =
    visit_settled c.replies-numbers.new.work c.replies-numbers.ensures c.clear.ensures (search rules)
