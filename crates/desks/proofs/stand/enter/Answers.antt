-- `desks::stand::enter` meets its contract. Assumes nothing.
use mathlib.Core.Path.{refl}
use Rattle.desks.proofs.Standing.{entered}
use Rattle.desks.proofs.stand.enter.Goals as goal

pub returns : goal.returns
returns c = entered _ _ refl
