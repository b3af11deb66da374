-- `hub_search::search::seed` meets its contract.
-- Assumes nothing.
use borrow.Author.Rules.{rules}
use Rattle.hub_search.proofs.Rooting.{root_at, root_entered}
use Rattle.hub_search.proofs.search.seed.Goals as goal

pub enter-requires : goal.enter-requires
enter-requires c = record { roomy = (c.requires.roomy.0, root_at _ _ c.requires.doors_once.1 c.find_kind-k.ensures, search rules); waiting = c.requires.roomy.1 }

pub returns : goal.returns
returns c =
    let entered = c.enter.ensures in
    record { pairs_entered = root_entered _ _ c.requires.doors_once.1 c.find_kind-k.ensures c.requires.doors_once.0 entered.entered; waiting = entered.still_waiting }
