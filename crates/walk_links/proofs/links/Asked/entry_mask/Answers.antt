-- `links::Asked::entry_mask` meets its contract. Assumes nothing.
use mathlib.Core.Path.{sym, ◌∙◌}
use Rattle.sets.proofs.StateSets.{has_empty}
use Rattle.walk_links.proofs.links.Asked.entry_mask.Goals as goal

pub returns-then-is_stopped : goal.returns-then-is_stopped
returns-then-is_stopped c p = let stops = sym c.is_stopped.ensures ∙ c.if-is_stopped.true in rw stops (has_empty p)
