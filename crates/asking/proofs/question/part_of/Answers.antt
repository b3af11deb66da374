-- `asking::question::part_of` meets its contract.
-- Assumes nothing.
use mathlib.Core.Path.{◌∙◌}
use Rattle.asking.proofs.Spaces.{part_is}
use Rattle.asking.proofs.question.part_of.Goals as goal

pub returns : goal.returns
returns c = let a = c.args in c.file_in.ensures.is ∙ part_is a.parts.now a.site
