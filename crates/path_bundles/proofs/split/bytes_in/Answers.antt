-- `path_bundles::split::bytes_in` meets its contract. Assumes nothing.
use Rattle.path_bundles.proofs.split.bytes_in.Goals as goal

pub returns : goal.returns
returns c = cc
