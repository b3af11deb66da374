-- `search::seed` meets its contract: the node is entered in the one state. Assumes nothing.
use Rattle.part_search.proofs.Seeding.{seeded}
use Rattle.slots.proofs.Places.{node_below}
use Rattle.part_search.proofs.search.seed.Goals as goal

pub enter-requires : goal.enter-requires
enter-requires c = (c.requires.0.laid.roomy, node_below _ _ c.requires.1, c.requires.0.stack)

pub returns : goal.returns
returns c =
    seeded _ _ _ _ _ _ _ _ _ c.requires.0 c.requires.1 c.requires.2 c.with-m.ensures c.enter.ensures.entered c.enter.ensures.stacked
