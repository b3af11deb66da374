-- `hub_join::call::write` meets its contract. Assumes nothing.
use borrow.Author.Rules.{rules}
use lib.ListN.{length}
use Rattle.hub_join.proofs.Answering.{joined_filed}
use Rattle.hub_join.proofs.call.write.Goals as goal

pub returns : goal.returns
returns c =
    let args = c.args in
    joined_filed _ _ (length args.work.now) c.close.ensures c.write_answers-count.ensures c.mark_kind.ensures c.clear.ensures
    c.clear-2.ensures (search rules)
