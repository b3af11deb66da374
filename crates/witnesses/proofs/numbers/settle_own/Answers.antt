-- `witnesses::numbers::settle_own` meets its contract. Assumes nothing.
use Rattle.output.specs.Frame.{settled, withheld}
use Rattle.witnesses.proofs.numbers.settle_own.Goals as goal

pub returns : goal.returns
unfolding settled withheld
returns c = c.settle.ensures
