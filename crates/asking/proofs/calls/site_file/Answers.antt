-- `asking::calls::site_file` meets its contract.
-- Assumes nothing.
use mathlib.Core.Path.{◌∙◌}
use Rattle.asking.proofs.Handing.{site_said}
use Rattle.asking.proofs.calls.site_file.Goals as goal

pub returns-clause-is : goal.returns-clause-is
returns-clause-is c = c.tell.ensures.is ∙ site_said _ _ _ _ _ _ _ _ _ c.site_call-number.ensures
