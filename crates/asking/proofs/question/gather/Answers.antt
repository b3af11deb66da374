-- `asking::question::gather` meets its contract.
-- Assumes nothing.
use borrow.Author.Rules.{rules}
use native.Mathlib.Omega.{arith}
use mathlib.Core.Path.{◌≡◌, refl}
use Prim.Native.Nat.{◌+◌, ◌-◌, ◌≤◌, ◌<◌}
use borrow.Rule.Slice.PartMut.{mid_of}
use lib.ListN.{length}
use Rattle.std.proofs.lemmas.Result.{err_from_is_err_and}
use Rattle.asking.specs.Run.{slot, site_asked}
use Rattle.asking.proofs.Spaces.{space_first, space_one, slot_length}
use Rattle.asking.proofs.Trips.{trip_first, trip_refused, trip_next, trip_last}
use Rattle.asking.proofs.question.gather.Goals.{In-Some}
use Rattle.asking.proofs.question.gather.Goals as goal

-- a site is left
some : (c : In-Some) → 0 < c.loop-site.site-iterator.0
some c = omega (arith, c.in-Some.ensures.steps.1.less)

-- there is room for one more reply
one : (c : In-Some) → c.loop-site.end + slot ≤ length c.loop-site.bundle
one c = space_one c.loop-site.invariant.space (some c)

-- the room has a slot's length
room : (c : In-Some)
    → length (mid_of c.loop-site.end (c.loop-site.end + slot - c.loop-site.end) c.loop-site.bundle) ≡ slot
room c = slot_length c.loop-site.end c.loop-site.bundle (one c)

pub loop-site-init : goal.loop-site-init
loop-site-init c = rw c.into_iter-site-iterator.ensures.into_iter_gives (trip_first _ _ _ _ _ (search (space_first, rules)))

pub slice_bounds-site_file-end : goal.slice_bounds-site_file-end
slice_bounds-site_file-end c = omega (arith, one (goal.at.slice_bounds-site_file-end c).In-Some)

pub returns-in_err-end-clause-is : goal.returns-in_err-end-clause-is
returns-in_err-end-clause-is c =
    let p = err_from_is_err_and c.from_residual.result c.from_residual.ensures.1 in
    rw (p.1, p.2) (trip_refused (site_asked c.args.trip c.args.path.now c.args.calls.now) c.loop-site.invariant (some (goal.at.returns-in_err-end-clause-is c).In-Some) c.in-Some.ensures.steps.0 c.part_of-part.ensures c.in_err-end.ensures.is
    (room (goal.at.returns-in_err-end-clause-is c).In-Some) refl refl)

pub loop-site-preserved : goal.loop-site-preserved
loop-site-preserved c =
    let slot_room = room (goal.at.loop-site-preserved c).In-Some in
    trip_next (site_asked c.args.trip c.args.path.now c.args.calls.now) c.loop-site.invariant (some (goal.at.loop-site-preserved c).In-Some) c.in-Some.ensures.steps.0 c.part_of-part.ensures c.in_ok-end.ensures.is
    slot_room refl _ _ c.in_ok-end.field-0 (c.loop-site.end + slot - c.loop-site.end) refl c.in-Some.ensures.steps.1 (search rules) c.site_file.auto.work
    (omega (arith, slot_room, c.site_file.auto.out, c.in_ok-end.ensures.within)) c.in_ok-end.ensures.within

pub returns : goal.returns
returns c = record { is = trip_last c.loop-site.invariant (omega (arith, c.in-None.ensures.steps.0)); within = omega (arith, c.loop-site.invariant.space.fits) }
