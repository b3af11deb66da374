-- `rounds::follow_back` meets its contract: no state is entered, or the row and the list of the edge's node have what is new. Assumes nothing.
use native.Mathlib.Omega.{arith}
use Rattle.walk_distances.proofs.Backward.{back_none, back_small, back_room, back_some}
use Rattle.walk_distances.proofs.Noting.{list_room}
use Rattle.walk_distances.proofs.rounds.follow_back.Goals as goal

pub returns-then-g-eq0 : goal.returns-then-g-eq0
returns-then-g-eq0 c =
    let h = back_none c.args.x c.args.f c.get16.result c.requires.numbering c.requires.edge.0 c.requires.edge.1 c.get16.ensures c.if-g-eq0.true in
    record { turns = h.turns; written = h.written; waiting = h.waiting }

pub spread-new-requires : goal.spread-new-requires
spread-new-requires c = (
  back_small c.args.x c.args.f c.get16.result c.requires.numbering c.requires.edge.0 c.requires.edge.1 c.get16.ensures c.get16-j.ensures,
  c.requires.numbering.ready.measurable.works,
  omega (arith, c.requires.numbering.big),
)

pub note-requires : goal.note-requires
note-requires c = (
  list_room c.requires.numbering.list c.requires.numbering.ready.measurable,
  back_small c.args.x c.args.f c.get16.result c.requires.numbering c.requires.edge.0 c.requires.edge.1 c.get16.ensures c.get16-j.ensures,
  back_room c.args.x c.args.f c.get16.result c.requires.numbering c.requires.edge.0 c.requires.edge.1 c.get16.ensures c.get16-j.ensures c.preceding-set.result c.preceding-set.ensures c.spread-new.ensures.hit c.spread-new.ensures.tells,
)

pub returns : goal.returns
returns c =
    let new = c.spread-new.ensures in
    let h =
    back_some c.args.x c.args.f c.get16.result c.requires.numbering c.requires.edge.0 c.requires.edge.1 c.get16.ensures c.get16-j.ensures
    c.preceding-set.result c.preceding-set.ensures new.hit new.tells c.note.ensures.0 c.note.ensures.1 in
    record { turns = h.turns; written = h.written; waiting = h.waiting }
