-- `path_bundles::split::count_files` meets its contract. Assumes nothing.
use borrow.Author.Rules.{rules}
use Rattle.path_bundles.proofs.Places.{counting_first, counting_more}
use Rattle.path_bundles.proofs.split.count_files.Goals as goal

pub loop-count-init : goal.loop-count-init
loop-count-init c = search (counting_first, rules)

pub loop-count-preserved : goal.loop-count-preserved
loop-count-preserved c = counting_more c.loop-count.invariant c.loop-count-test.true (search rules) c.behind-rest.ensures
