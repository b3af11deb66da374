-- `search::run` meets its contract. The invariant: the tables were kept, the search goes on, and the stack holds the nodes that wait. The
-- measure: the open pairs. Assumes nothing.
use Prim.Native.Nat.{◌+◌, ◌≤◌, ◌<◌}
use native.Mathlib.Omega.{arith}
use lib.ListN.{length}
use Rattle.files.specs.Word.{words}
use Rattle.files.specs.Limits.{part_words, work_bytes}
use Rattle.sets.proofs.Searches.{Turned}
use Rattle.slots.specs.Slots.{Kept, is_reached, is_pending}
use Rattle.part_search.specs.Search.{Step}
use Rattle.slots.proofs.Storing.{kept_refl, kept_trans, roomy_kept, laid_kept}
use Rattle.entering.proofs.Entering.{waiting_room}
use Rattle.part_search.proofs.Turning.{turn_start, top_below, pop_node, pop_kept, pop_stack, turned, turn_end}
use Rattle.part_search.proofs.search.run.Goals.{After-get16-i, After-walk-top, In-loop-top}
use Rattle.part_search.proofs.search.run.Goals as goal

-- the tables have room for the part's words, and the place on top of the stack
room : (t : In-loop-top)
    → (length (words t.args.part.now) ≤ part_words) × (work_bytes ≤ length t.loop-top.work) × (t.args.outside + t.loop-top.top ≤ part_words) × (0 < t.loop-top.top)
room t =
    let r = roomy_kept t.loop-top.invariant.0 t.requires.0.laid.roomy in
    (r.few, r.long, waiting_room _ _ _ _ r t.loop-top.invariant.2, omega (arith, t.loop-top-test.true))

-- the node on top is one of the part's words
below : (g : After-get16-i) → g.get16-i.result < length (words g.args.part.now)
below g =
    top_below (words g.args.part.now) g.args.outside g.loop-top.work g.loop-top.top g.get16-i.result (omega (arith, g.loop-top-test.true)) g.loop-top.invariant.2 g.get16-i.ensures

-- what the turn made of the tables
turn : (c : After-walk-top)
    → let ws = words c.args.part.now in
    Kept ws c.args.outside c.args.work.now c.walk-top.new.work
    × Turned (length ws) (Step ws c.args.work.now c.args.follow.now) (is_reached c.args.work.now) (is_reached c.loop-top.work) (is_pending ws c.loop-top.work)
    (is_reached c.walk-top.new.work) (is_pending ws c.walk-top.new.work)
turn c =
    let ws = words c.args.part.now in
    let kept = pop_kept ws c.args.outside c.args.follow.now c.args.work.now c.loop-top.work c.put16.new.work c.loop-top.top c.get16-i.result c.requires.0.laid
    c.loop-top.invariant.0 (omega (arith, c.loop-top-test.true)) c.loop-top.invariant.2 c.get16-i.ensures c.put16.ensures in (
      kept_trans kept c.walk-top.ensures.walked.grown.kept,
      turned ws c.args.outside c.args.follow.now c.args.work.now c.loop-top.work c.put16.new.work c.loop-top.top c.get16-i.result c.requires.0.laid
          c.loop-top.invariant.0 (omega (arith, c.loop-top-test.true)) c.loop-top.invariant.2 c.get16-i.ensures c.put16.ensures
          c.walk-top.new.work c.get16-s.result c.follow_all-u.result c.get16-s.ensures (omega (arith, c.get16-s.type_inv)) c.follow_all-u.ensures c.walk-top.ensures.walked c.loop-top.invariant.1,
    )

pub loop-top-init : goal.loop-top-init
loop-top-init c =
    (kept_refl (words c.args.part.now) c.args.outside c.args.work.now, turn_start (words c.args.part.now) c.args.outside c.args.work.now c.args.follow.now c.args.height c.requires.0 c.requires.1, c.requires.0.stack)

pub overflow_add-outside : goal.overflow_add-outside
overflow_add-outside c = omega (arith, room (goal.at.overflow_add-outside c).In-loop-top)

pub get16-i-requires : goal.get16-i-requires
get16-i-requires c = omega (arith, room (goal.at.get16-i-requires c).In-loop-top)

pub walk-top-requires : goal.walk-top-requires
walk-top-requires c =
    let ws = words c.args.part.now in
    let k = pop_kept ws c.args.outside c.args.follow.now c.args.work.now c.loop-top.work c.put16.new.work c.loop-top.top c.get16-i.result c.requires.0.laid
    c.loop-top.invariant.0 (room (goal.at.walk-top-requires c).In-loop-top).3 c.loop-top.invariant.2 c.get16-i.ensures c.put16.ensures in record {
      laid = (
        laid_kept k c.requires.0.laid,
        below (goal.at.walk-top-requires c).After-get16-i,
        pop_node ws c.args.outside c.args.follow.now c.args.work.now c.loop-top.work c.put16.new.work c.loop-top.top c.get16-i.result c.requires.0.laid
            c.loop-top.invariant.0 (room (goal.at.walk-top-requires c).In-loop-top).3 c.loop-top.invariant.2 c.get16-i.ensures c.put16.ensures,
      );
      waiting = pop_stack ws c.args.outside c.args.follow.now c.args.work.now c.loop-top.work c.put16.new.work c.loop-top.top c.get16-i.result c.requires.0.laid
          c.loop-top.invariant.0 (room (goal.at.walk-top-requires c).In-loop-top).3 c.loop-top.invariant.2 c.get16-i.ensures c.put16.ensures;
    }

pub loop-top-smaller : goal.loop-top-smaller
loop-top-smaller c = (turn (goal.at.loop-top-smaller c).After-walk-top).1.less

pub loop-top-preserved : goal.loop-top-preserved
loop-top-preserved c = ((turn (goal.at.loop-top-preserved c).After-walk-top).0, (turn (goal.at.loop-top-preserved c).After-walk-top).1.next, c.walk-top.ensures.stacked)

pub returns : goal.returns
returns c =
    turn_end (words c.args.part.now) c.args.outside c.args.follow.now c.args.work.now c.loop-top.work c.loop-top.top c.requires.0.laid c.loop-top.invariant.0
    c.loop-top-test.false c.loop-top.invariant.2 c.loop-top.invariant.1
