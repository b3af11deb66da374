-- `path_bundles::split::file_at` meets its contract. Assumes nothing.
use Rattle.path_bundles.specs.Place.{file_at}
use Rattle.path_bundles.proofs.Places.{Going}
use Rattle.path_bundles.proofs.split.file_at.Given as goal

abbrev pub invariant-loop : goal.invariant-loop
invariant-loop l = Going (file_at l.index l.bundle) l.index l.rest l.counter
