-- `hub_calls::call::find` meets its contract. Assumes nothing.
use borrow.Author.Rules.{rules}
use mathlib.Core.Path.{sym, ◌∙◌}
use lib.ListN.{length}
use Rattle.files.proofs.Checks.{ok_zero}
use Rattle.files.specs.Word.{words}
use Rattle.files.proofs.Buffers.{zeros_all}
use Rattle.hub_calls.proofs.Homing.{one_root, roomy, cleared, stray_said, stray_none, listable}
use Rattle.hub_calls.proofs.call.find.Goals as goal

pub index_doors-doors-requires : goal.index_doors-doors-requires
index_doors-doors-requires c =
    let room = c.requires.room_for.0 in
    record { room = (c.requires.room_for.1, search (room.holds, rules), search (room.works, rules)); out_clear = search (zeros_all, rules); doors_once = (one_root _ c.requires.accepted).0 }

pub search-stray-requires : goal.search-stray-requires
search-stray-requires c =
    let indexed = c.index_doors-doors.ensures.indexed in
    let placed = c.index_doors-doors.ensures.placed in
    let ws = words c.args.bundle.now in
    record { indexed = (indexed, roomy c.args.bundle.now c.requires.room_for.1 (search (c.requires.room_for.0.works, rules)) indexed); doors_once = one_root ws c.requires.accepted; table_clear = cleared ws (length c.args.work.now) c.clear-2.ensures placed }

pub returns-in_err-ensure-clause-checked : goal.returns-in_err-ensure-clause-checked
returns-in_err-ensure-clause-checked c = search (stray_said, rules)

pub returns-clause-checked : goal.returns-clause-checked
returns-clause-checked c = search (stray_said, rules)

pub returns-clause-listable : goal.returns-clause-listable
returns-clause-listable c = listable c.index_doors-doors.ensures.indexed c.search-stray.ensures (stray_none (sym c.ensure.ensures ∙ ok_zero c.in_ok-ensure.was))
