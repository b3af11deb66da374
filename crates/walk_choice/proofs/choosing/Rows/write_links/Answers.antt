-- `walk_choice::choosing::Rows::write_links` meets its contract. Assumes nothing.
use borrow.Author.Rules.{rules}
use native.Mathlib.Omega.{arith}
use Rattle.walk_choice.proofs.Picking.{found_edge, writing_none, writing_last, writing_stop, states_move, writing_more}
use Rattle.walk_choice.proofs.choosing.Rows.write_links.Goals as goal

pub loop-left-init : goal.loop-left-init
loop-left-init c = writing_none _ _ _ _ _ _ _ c.requires.root.0

pub returns-in_default : goal.returns-in_default
returns-in_default c = writing_stop c.loop-left.invariant _ c.follow_all-u.ensures c.in_default.ensures.first_open

pub loop-left-preserved : goal.loop-left-preserved
loop-left-preserved c =
    let there = found_edge c.requires.linked.edged c.in-Some.ensures.behind in
    let first = c.in-Some.ensures.first_open in
    writing_more c.loop-left.invariant _ c.follow_all-u.ensures first c.requires.linked.accepted there _
    (search rules) (rw c.word_at.ensures at c.push-n.ensures) (search rules)
    (states_move c.loop-left.invariant _ c.follow_all-u.ensures first c.requires.linked.accepted there _ c.get16.ensures)
    c.get16-i.ensures

pub returns : goal.returns
returns c = writing_last c.loop-left.invariant (omega (arith, c.loop-left-test.false))
