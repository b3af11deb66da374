-- `path_bundles::split::uses_up` meets its contract. Assumes nothing.
use Rattle.path_bundles.specs.Split.{uses_up}
use Rattle.path_bundles.proofs.Places.{Using}
use Rattle.path_bundles.proofs.split.uses_up.Given as goal

abbrev pub invariant-loop : goal.invariant-loop
invariant-loop l = Using l.most (uses_up l.most l.bundle) l.rest l.counter
