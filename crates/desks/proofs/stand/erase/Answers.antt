-- `desks::stand::erase` meets its contract. Assumes nothing.
use Rattle.desks.proofs.Standing.{erased}
use Rattle.desks.proofs.stand.erase.Goals as goal

pub returns : goal.returns
returns c =
    erased c.args.out.now c.args.at c.requires c.clear.ensures
