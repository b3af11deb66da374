-- `path_bundles::split::uses_up` meets its contract. Assumes nothing.
use borrow.Author.Rules.{rules}
use Rattle.path_bundles.proofs.Places.{using_first, using_more}
use Rattle.path_bundles.proofs.split.uses_up.Goals as goal

pub loop-init : goal.loop-init
loop-init c = search (using_first, rules)

pub loop-preserved : goal.loop-preserved
loop-preserved c = using_more c.loop.invariant c.loop-test.true (search rules) c.bytes_in-n.ensures c.if-not-fits.false c.behind-rest.ensures
