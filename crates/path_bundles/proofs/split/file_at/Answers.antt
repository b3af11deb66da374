-- `path_bundles::split::file_at` meets its contract. Assumes nothing.
use borrow.Author.Rules.{rules}
use Rattle.path_bundles.proofs.Places.{going_first, going_more}
use Rattle.path_bundles.proofs.split.file_at.Goals as goal

pub loop-init : goal.loop-init
loop-init c = search (going_first, rules)

pub loop-preserved : goal.loop-preserved
loop-preserved c = going_more c.loop.invariant c.loop-test.true c.behind-rest.ensures
