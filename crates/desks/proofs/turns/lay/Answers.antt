-- `desks::turns::lay` meets its contract. Assumes nothing.
use native.Mathlib.Omega.{arith}
use Rattle.desks.proofs.Turning.{file_asked, asked_small, next_here, lays_in, lays_out}
use Rattle.desks.proofs.turns.lay.Goals as goal

pub settle_desk-requires : goal.settle_desk-requires
settle_desk-requires g c =
    let may = c.requires.1 in
    (asked_small (file_asked c.args.i c.args.paths.now c.file_at.ensures c.ask-asked.ensures c.unwrap_or-end.ensures) c.requires.0.small, omega (arith, next_here c.args.s.next c.args.i _ c.if-s-i.true, may.turn))

pub returns-then-s-i : goal.returns-then-s-i
returns-then-s-i g c =
    let a = c.args in
    lays_in a.i a.come a.s (file_asked a.i a.paths.now c.file_at.ensures c.ask-asked.ensures c.unwrap_or-end.ensures) c.if-s-i.true c.settle_desk.ensures

pub returns : goal.returns
returns g c =
    let a = c.args in
    lays_out a.i a.come a.s (file_asked a.i a.paths.now c.file_at.ensures c.ask-asked.ensures c.unwrap_or-end.ensures) c.if-s-i.false
    c.erase.ensures c.ask-asked.auto.out c.short_part.ensures.is
