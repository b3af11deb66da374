-- `asking::question::gather` meets its contract.
-- Assumes nothing.
use lib.ListN.{length}
use Rattle.asking.specs.Run.{slot, site_asked}
use Rattle.asking.proofs.Trips.{OnTrip}
use Rattle.asking.proofs.question.gather.Given as goal

abbrev pub invariant-loop-site : goal.invariant-loop-site
invariant-loop-site l = OnTrip (site_asked l.trip l.path l.calls slot (length l.initial.work)) l.parts l.initial.bundle l.initial.work l.bundle l.work l.sites l.end l.site-iterator.0
