-- `letters::none` meets its contract. Assumes nothing.
use Rattle.paths.proofs.Lettering.{labelled_none}
use Rattle.paths.proofs.letters.none.Goals as goal

pub returns : goal.returns
returns c = labelled_none
