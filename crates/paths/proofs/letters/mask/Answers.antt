-- `letters::mask` meets its contract. Assumes nothing.
use Rattle.paths.proofs.Lettering.{masking_first, masking_more, masking_last}
use Rattle.paths.proofs.letters.mask.Goals as goal

pub loop-p-init : goal.loop-p-init
loop-p-init c = rw c.into_iter-p-iterator.ensures.into_iter_gives (masking_first _ _)

pub loop-p-preserved : goal.loop-p-preserved
loop-p-preserved c =
    masking_more _ c.loop-p.invariant c.in-Some.ensures.steps.0 c.in-Some.ensures.steps.1 c.holds.ensures c.with.ensures c.only-r.ensures

pub returns : goal.returns
returns c = masking_last c.loop-p.invariant c.in-None.ensures.steps.0
