-- `output::settle::settle` meets its contract. Assumes nothing.
use Rattle.output.proofs.Settling.{settled_by}
use Rattle.output.proofs.settle.settle.Goals as goal

pub returns : goal.returns
returns g c = settled_by _ _ c.number.ensures c.withhold.ensures c.clear.ensures
