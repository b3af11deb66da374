-- `hub_search::follow::follow_rows` meets its contract. The inner loop is left by both breaks: the outer one ends the search at a stray.
-- Assumes nothing.
use mathlib.Core.Path.{refl, sym, subst, ◌≡◌, ◌∙◌}
use native.Mathlib.Omega.{arith}
use Rattle.files.specs.Word.{words}
use Rattle.files.proofs.Words.{words_length}
use Rattle.row_scan.specs.Following.{in_rows}
use Rattle.row_scan.proofs.RowWords.{reach_below}
use Rattle.door_index.specs.Index.{DoorAt, index_at}
use Rattle.hub_search.proofs.Places.{at_within, word_rows}
use Rattle.hub_search.proofs.Seeks.{sought_first, sought_more, sought_found, sought_none}
use Rattle.hub_search.proofs.RowScans.{following_first, following_pass, following_stray, following_enter, following_last}
use Rattle.hub_search.proofs.follow.follow_rows.Goals.{then-is_followed+else-loop-at-test, then-is_followed+then-loop-at-test+else-at-doors+then-is_door_of, else-is_followed}
use Rattle.hub_search.proofs.follow.follow_rows.Goals as goal

pub words-init : goal.words-init
words-init c = (following_first _ _ _ _ _ _ _ c.requires.indexed.0 c.requires.indexed.1 c.requires.waiting, omega (arith, c.requires.indexed.2))

pub loop-at-init : goal.loop-at-init
loop-at-init c = (sought_first c.words.invariant.0.indexed (reach_below _ c.reach_node-x.ensures) c.get16-start.ensures, refl, refl)

pub loop-at-preserved : goal.loop-at-preserved
loop-at-preserved c =
    let (sought, kept, top) = c.loop-at.invariant in
    let j = subst (λ u. c.get16-j.result ≡ index_at u c.loop-at.at) kept c.get16-j.ensures in
    (sought_more sought c.if-at-doors.false (rw (← j) c.word_at.ensures) c.is_door_of.ensures c.if-is_door_of.false, kept, top)

-- the word was followed, and its pair entered; or it was not
pub words-preserved : goal.words-preserved
words-preserved c =
    let ws = words c.args.bundle.now in
    let inv = c.words.invariant in
    let in_row = word_rows ws _ c.word_at-w.ensures c.in_rows.ensures c.if-not-in_rows.false in
    let within = at_within in_rows refl ws c.words.k in_row in
    let followed = c.is_followed.ensures in
    elim c.if-is_followed.branch [
      | then-is_followed+else-loop-at-test w ↦ absurd (omega (arith, w.loop-at.invariant.0.within, w.loop-at-test.false))
      | then-is_followed+then-loop-at-test+else-at-doors+then-is_door_of w ↦
          let (sought, kept, top) = w.loop-at.invariant in
          let j = subst (λ u. w.get16-j.result ≡ index_at u w.loop-at.at) kept w.get16-j.ensures in
          let at = subst (λ y. DoorAt ws y w.get16-j.result) w.reach_node-x.ensures
          (sought_found sought w.if-at-doors.false (rw (← j) w.word_at.ensures) w.is_door_of.ensures j w.if-is_door_of.true) in
          rw (w.work-is, w.top-is) (
            following_enter inv.0 c.word_at-w.ensures in_row c.turn-rows.ensures (sym followed ∙ w.if-is_followed.true) at w.state.ensures
                (rw kept at w.enter-top.ensures.entered) w.enter-top.ensures.still_waiting,
            omega (arith, within),
          )
      | else-is_followed w ↦
          rw (w.work-is, w.top-is) (following_pass inv.0 c.word_at-w.ensures in_row c.turn-rows.ensures (sym followed ∙ w.if-is_followed.false), omega (arith, within))
    ]

-- the rows are at their end
pub returns-then-not-in_rows : goal.returns-then-not-in_rows
returns-then-not-in_rows c =
    following_last c.words.invariant.0 (word_rows (words c.args.bundle.now) _ c.word_at-w.ensures c.in_rows.ensures c.if-not-in_rows.true)

-- the word behind the last is no row's
pub returns : goal.returns
returns c = absurd (omega (arith, c.words.invariant.1, c.words-test.false, words_length c.args.bundle.now))

pub returns-then-at-doors : goal.returns-then-at-doors
returns-then-at-doors c =
    let ws = words c.args.bundle.now in
    let in_row = word_rows ws _ c.word_at-w.ensures c.in_rows.ensures c.if-not-in_rows.false in
    following_stray c.words.invariant.0 c.word_at-w.ensures in_row c.turn-rows.ensures (sym c.is_followed.ensures ∙ c.if-is_followed.true)
    (λ m. sought_none c.loop-at.invariant.0 c.if-at-doors.true (reach_below _ c.reach_node-x.ensures) (rw c.reach_node-x.ensures m))

pub returns-after-is_followed : goal.returns-after-is_followed
returns-after-is_followed c =
    let ws = words c.args.bundle.now in
    let in_row = word_rows ws _ c.word_at-w.ensures c.in_rows.ensures c.if-not-in_rows.false in
    let within = at_within in_rows refl ws c.words.k in_row in
    absurd (omega (arith, within, words_length c.args.bundle.now))
