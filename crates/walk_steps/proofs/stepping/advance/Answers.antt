-- `walk_steps::stepping::advance` meets its contract. Assumes nothing.
use Rattle.walk_steps.proofs.Advancing.{advances}
use Rattle.walk_steps.proofs.stepping.advance.Goals as goal

pub returns : goal.returns
returns c = advances _ _ _ _ _ c.follow_all.ensures c.mask.ensures
