-- `walk_choice::choosing::Rows::first_open` meets its contract. Assumes nothing.
use Prim.Native.Nat.{◌≤◌}
use native.Mathlib.Omega.{arith}
use lib.ListN.{length}
use Rattle.files.specs.Word.{words}
use mathlib.Core.Path.{sym, ◌∙◌}
use Rattle.files.proofs.Words.{words_length}
use Rattle.slots.proofs.Places.{node_below}
use Rattle.walk_choice.proofs.Picking.{passing_none, passing_behind, passing_found, passing_more, passing_last, front_end, front_other}
use Rattle.walk_choice.proofs.choosing.Rows.first_open.Goals as goal

pub overflow_step-x : goal.overflow_step-x
overflow_step-x c = omega (arith, node_below _ _ c.requires.node.0)

pub loop-x-init : goal.loop-x-init
loop-x-init c = passing_none _ _ _ _ _ _ c.requires.linked.accepted c.requires.node.0

pub returns-then-not-is_edge-clause-first_open : goal.returns-then-not-is_edge-clause-first_open
returns-then-not-is_edge-clause-first_open c = passing_last c.loop-x.invariant (front_other _ _ (sym c.is_edge.ensures ∙ c.if-not-is_edge.true))

pub returns-then-opens : goal.returns-then-opens
returns-then-opens c =
    let edge = sym c.is_edge.ensures ∙ c.if-not-is_edge.false in
    record { behind = passing_behind c.loop-x.invariant edge; first_open = passing_found c.loop-x.invariant edge c.opens.ensures c.if-opens.true }

pub loop-x-preserved : goal.loop-x-preserved
loop-x-preserved c = passing_more c.loop-x.invariant (sym c.is_edge.ensures ∙ c.if-not-is_edge.false) c.opens.ensures c.if-opens.false

pub returns-clause-first_open : goal.returns-clause-first_open
returns-clause-first_open c =
    let ends : length (words c.args.self.now.asked.whole.now) ≤ c.loop-x.x = omega (arith, words_length c.args.self.now.asked.whole.now, c.loop-x-test.false) in
    passing_last c.loop-x.invariant (front_end _ _ ends)
