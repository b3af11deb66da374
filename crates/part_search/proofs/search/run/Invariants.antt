-- `search::run` meets its contract. The invariant: the tables were kept, the search goes on, and the stack holds the nodes that wait. The
-- measure: the open pairs. Assumes nothing.
use lib.ListN.{length}
use Rattle.files.specs.Word.{words}
use Rattle.sets.proofs.Searches.{Searching, open_in}
use Rattle.slots.specs.Slots.{Kept, is_reached, is_pending}
use Rattle.entering.specs.Entering.{Waiting}
use Rattle.part_search.specs.Search.{Step}
use Rattle.part_search.proofs.search.run.Given as goal

abbrev pub invariant-loop-top : goal.invariant-loop-top
invariant-loop-top l = Kept (words l.part) l.outside l.initial.work l.work
    × Searching (length (words l.part)) (Step (words l.part) l.initial.work l.follow) (is_reached l.initial.work) (is_reached l.work) (is_pending (words l.part) l.work)
    × Waiting (words l.part) l.outside l.work l.top

abbrev pub decreases-loop-top : goal.decreases-loop-top
decreases-loop-top l = open_in (length (words l.part)) (is_reached l.work) (is_pending (words l.part) l.work)
