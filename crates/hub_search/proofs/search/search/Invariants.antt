-- `hub_search::search::search` meets its contract.
-- Assumes nothing.
use Rattle.files.specs.Word.{words}
use Rattle.hub_search.proofs.Turning.{Running, open_pairs}
use Rattle.hub_search.proofs.search.search.Given as goal

abbrev pub invariant-loop-top : goal.invariant-loop-top
invariant-loop-top l = Running (words l.bundle) l.counts l.doors l.initial.work l.work l.top

abbrev pub decreases-loop-top : goal.decreases-loop-top
decreases-loop-top l = open_pairs (words l.bundle) l.work
