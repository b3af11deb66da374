-- `call::write` meets its contract. Assumes nothing.
use borrow.Author.Rules.{rules}
use Rattle.output.proofs.Frame.{filed}
use Rattle.walk_find.proofs.call.write.Goals as goal

pub returns : goal.returns
returns c =
    λ e h. filed _ c.close.ensures (c.write_links-count.ensures e h) c.clear.ensures (search rules)
