-- `hub_calls::call::check` meets its contract. Assumes nothing.
use mathlib.Core.Path.{refl}
use lib.ListN.{length}
use Rattle.files.proofs.Checks.{ok_zero}
use Rattle.output.proofs.Frame.{checked, check_passes, check_last, passed}
use Rattle.hub_calls.proofs.call.check.Goals as goal

pub find-requires : goal.find-requires
find-requires c =
    let p = passed {out = length c.args.out.now} {work = length c.args.work.now} {l = length c.args.out.now} {m = length c.check_bundle.new.work} (ok_zero c.in_ok-check_bundle.was) (checked (check_passes {s = c.args.bundle.now} c.check_room.ensures (ok_zero c.in_ok-check_room.was) (check_last c.check_bundle.ensures.checked))) refl c.check_bundle.ensures.work_len_unchanged in
    record { room_for = (p.room, p.read.0.size); accepted = p.read.0.read }
