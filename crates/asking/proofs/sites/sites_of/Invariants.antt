-- `asking::sites::sites_of` meets its contract.
-- Assumes nothing.
use Rattle.asking.proofs.Named.{Named}
use Rattle.asking.proofs.sites.sites_of.Given as goal

abbrev pub invariant-loop-byte : goal.invariant-loop-byte
invariant-loop-byte l = Named l.cuts l.sites l.byte-index
