-- `desks::turns::choose` meets its contract. Assumes nothing.
use Rattle.desks.proofs.Turning.{file_asked, asked_small, short_kept, gets_short, gets_long, gets_nothing}
use Rattle.desks.proofs.turns.choose.Goals as goal

pub overflow_sub-s : goal.overflow_sub-s
overflow_sub-s g c =
    let a = c.args in
    short_kept (file_asked a.s.next a.paths.now c.file_at.ensures c.ask-asked.ensures c.unwrap_or-end.ensures) c.requires.1 c.if-end-at.true

pub settle_desk-requires : goal.settle_desk-requires
settle_desk-requires g c =
    (asked_small (file_asked c.args.s.next c.args.paths.now c.file_at.ensures c.ask-asked.ensures c.unwrap_or-end.ensures) c.requires.0.small, c.requires.1.turn)

pub returns-then-end-at : goal.returns-then-end-at
returns-then-end-at g c =
    let a = c.args in
    gets_short (file_asked a.s.next a.paths.now c.file_at.ensures c.ask-asked.ensures c.unwrap_or-end.ensures) c.requires.1 c.if-end-at.true c.settle_desk.ensures

pub settle_desk-requires-then-end-s-le-REPLY_WORDS : goal.settle_desk-requires-then-end-s-le-REPLY_WORDS
settle_desk-requires-then-end-s-le-REPLY_WORDS g c =
    (asked_small (file_asked c.args.s.next c.args.paths.now c.file_at.ensures c.ask-asked.ensures c.unwrap_or-end.ensures) c.requires.0.small, c.requires.1.turn)

pub returns-then-end-s-le-REPLY_WORDS : goal.returns-then-end-s-le-REPLY_WORDS
returns-then-end-s-le-REPLY_WORDS g c =
    let a = c.args in
    gets_long (file_asked a.s.next a.paths.now c.file_at.ensures c.ask-asked.ensures c.unwrap_or-end.ensures) c.requires.1 c.if-end-at.false
    c.if-end-s-le-REPLY_WORDS.true c.settle_desk-then-end-s-le-REPLY_WORDS.ensures

pub returns : goal.returns
returns g c =
    let a = c.args in
    gets_nothing (file_asked a.s.next a.paths.now c.file_at.ensures c.ask-asked.ensures c.unwrap_or-end.ensures) c.requires.1 c.if-end-at.false
    c.if-end-s-le-REPLY_WORDS.false c.erase.ensures c.ask-asked.auto.out c.settle_desk-2.ensures
