-- `enter::walk` meets its contract. The invariant: the words from i to x are edge words, their slots were entered, and the stack holds the
-- nodes that wait. Assumes nothing.
use mathlib.Core.Path.{◌≡◌, sym, ◌∙◌}
use mathlib.Core.Bool.{true}
use Prim.Native.Nat.{◌≤◌, ◌<◌}
use native.Mathlib.Omega.{arith}
use lib.ListN.{length}
use Rattle.files.specs.Word.{words}
use Rattle.files.specs.Limits.{part_words, work_bytes}
use Rattle.slots.specs.Slots.{edge_at}
use Rattle.slots.proofs.Storing.{roomy_kept}
use Rattle.entering.proofs.Entering.{walk_more}
use Rattle.slots.proofs.Places.{edge_below, edge_no_node}
use Rattle.entering.proofs.Walking.{run_more, hit_more}
use Rattle.entering.proofs.enter.walk.Goals.{In-loop-work}
use Rattle.entering.proofs.enter.walk.Goals as goal

-- the word at x is an edge word, and the tables have its place
edge : (c : In-loop-work) → edge_at (words c.args.part.now) c.loop-work.x ≡ true
edge c = sym c.is_edge.ensures ∙ c.loop-work-test.true

room : (c : In-loop-work)
    → (c.loop-work.x < length (words c.args.part.now)) × (length (words c.args.part.now) ≤ part_words) × (work_bytes ≤ length c.loop-work.work)
room c =
    let l = c.requires.laid.0.roomy in
    (edge_below (words c.args.part.now) c.loop-work.x (edge c), l.few, omega (arith, l.long, c.loop-work.invariant.1.grown.kept.long))

pub get16-s-requires : goal.get16-s-requires
get16-s-requires c = omega (arith, room (goal.at.get16-s-requires c).In-loop-work)

pub get16-m-requires : goal.get16-m-requires
get16-m-requires c = omega (arith, room (goal.at.get16-m-requires c).In-loop-work)

pub enter-top-requires : goal.enter-top-requires
enter-top-requires c =
    let l = c.requires.laid.0 in
    let k = c.loop-work.invariant.1.grown.kept in (
      roomy_kept k l.roomy,
      rw (c.get16-s.ensures, k.slots c.loop-work.x (omega (arith, room (goal.at.enter-top-requires c).In-loop-work))) (l.below c.loop-work.x (room (goal.at.enter-top-requires c).In-loop-work).0 (edge (goal.at.enter-top-requires c).In-loop-work)),
      c.loop-work.invariant.2,
    )

pub overflow_add-x-in-loop-work : goal.overflow_add-x-in-loop-work
overflow_add-x-in-loop-work c = omega (arith, room (goal.at.overflow_add-x-in-loop-work c).In-loop-work)

pub loop-work-smaller : goal.loop-work-smaller
loop-work-smaller c = omega (arith, room (goal.at.loop-work-smaller c).In-loop-work)

pub loop-work-preserved : goal.loop-work-preserved
loop-work-preserved c =
    let ws = words c.args.part.now in
    let k = c.loop-work.invariant.1.grown.kept in
    let b : c.loop-work.x < part_words = omega (arith, room (goal.at.loop-work-preserved c).In-loop-work) in (
      run_more ws c.args.i c.loop-work.x c.loop-work.invariant.0 (edge (goal.at.loop-work-preserved c).In-loop-work),
      walk_more ws c.args.outside _ _ c.args.work.now c.loop-work.work c.enter-top.new.work _ _ c.loop-work.invariant.1 c.enter-top.ensures.entered
          (hit_more ws c.args.work.now c.args.i c.args.u c.loop-work.x c.loop-work.invariant.0 c.requires.laid.2 (edge (goal.at.loop-work-preserved c).In-loop-work) c.get16-s.result c.get16-m.result
          (c.get16-s.ensures ∙ k.slots c.loop-work.x b) (c.get16-m.ensures ∙ k.masks c.loop-work.x b (edge_no_node ws c.loop-work.x (edge (goal.at.loop-work-preserved c).In-loop-work)))),
      c.enter-top.ensures.stacked,
    )
