-- `asking::calls::hub_file` meets its contract.
-- Assumes nothing.
use mathlib.Core.Path.{◌∙◌}
use Rattle.asking.proofs.Handing.{hub_said}
use Rattle.asking.proofs.calls.hub_file.Goals as goal

pub returns-clause-is : goal.returns-clause-is
returns-clause-is c = c.tell.ensures.is ∙ hub_said _ _ _ _ _ _ _ c.hub_call-number.ensures
