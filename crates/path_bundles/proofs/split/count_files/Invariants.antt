-- `path_bundles::split::count_files` meets its contract. Assumes nothing.
use lib.ListN.{length}
use Rattle.path_bundles.specs.Split.{split}
use Rattle.path_bundles.proofs.Places.{Counting}
use Rattle.path_bundles.proofs.split.count_files.Given as goal

abbrev pub invariant-loop-count : goal.invariant-loop-count
invariant-loop-count l = Counting l.most (length (split l.most l.bundle)) l.rest l.count
