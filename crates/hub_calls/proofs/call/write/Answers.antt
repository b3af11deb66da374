-- `hub_calls::call::write` meets its contract. Assumes nothing.
use borrow.Author.Rules.{rules}
use Rattle.hub_calls.proofs.Ascending.{list_filed}
use Rattle.hub_calls.proofs.call.write.Goals as goal

pub returns : goal.returns
returns c =
    list_filed _ c.close.ensures c.write_calls-count.ensures c.labels-n.ensures c.word_at.ensures
    c.clear.ensures (search rules)
