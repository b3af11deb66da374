-- `prepare::prepare` meets its contract. Assumes nothing.
use Rattle.preparing.proofs.Preparing.{prepared}
use Rattle.preparing.proofs.prepare.prepare.Goals as goal

pub returns : goal.returns
returns c =
    prepared _ _ _ _ _ c.resolve-outside.ensures c.fill.ensures
