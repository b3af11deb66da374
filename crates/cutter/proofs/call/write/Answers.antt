-- `cutter::call::write` meets its contract. Assumes nothing.
use borrow.Author.Rules.{rules}
use Rattle.cutter.proofs.Passes.{site_known, part_filed}
use Rattle.cutter.proofs.call.write.Goals as goal

pub close-requires : goal.close-requires
close-requires c = search (site_known, rules)

pub returns : goal.returns
returns c =
    part_filed _ _ _ _ c.close.ensures c.write_words-count.ensures c.collect_targets.ensures c.clear.ensures (search rules)
