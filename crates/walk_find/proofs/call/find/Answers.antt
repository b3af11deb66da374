-- `call::find` meets its contract. Assumes nothing.
use mathlib.Core.Path.{sym, ◌∙◌}
use native.Mathlib.Omega.{arith}
use Rattle.files.specs.Word.{words}
use Rattle.files.proofs.Parts.{whole_part}
use Rattle.walk_find.proofs.Answering.{root_node, unknown, unwalked, unreached, measured}
use Rattle.walk_find.proofs.call.find.Goals as goal

pub node_position-requires : goal.node_position-requires
node_position-requires c =
    (whole_part (words c.args.asked.now.whole.now) c.requires.0.accepted, omega (arith, c.requires.0.few, c.requires.0.holds, c.link.auto), c.link.ensures.1.owned)

pub returns-in_err-i-clause-measured : goal.returns-in_err-i-clause-measured
returns-in_err-i-clause-measured c =
    rw c.from_residual.ensures
    (unknown (words c.args.asked.now.whole.now) c.args.node c.requires.0.accepted c.args.asked.now.automaton _ c.find_kind-root.ensures c.in_err-i.ensures _)

pub returns-then-is_stopped-clause-measured : goal.returns-then-is_stopped-clause-measured
returns-then-is_stopped-clause-measured c =
    unwalked (words c.args.asked.now.whole.now) c.args.node c.requires.0.accepted c.args.asked.now.automaton _ c.find_kind-root.ensures
    c.is_stopped.ensures c.if-is_stopped.true _

pub measure-requires-clause-nodes : goal.measure-requires-clause-nodes
measure-requires-clause-nodes c = (
  c.in_ok-i.ensures.0,
  root_node (words c.args.asked.now.whole.now) c.requires.0.accepted _ c.find_kind-root.ensures,
)

pub returns-in_err-links-clause-measured : goal.returns-in_err-links-clause-measured
returns-in_err-links-clause-measured c =
    rw c.from_residual-in_err-links.ensures (λ path h. unreached (words c.args.asked.now.whole.now) c.args.node c.requires.0.accepted c.args.asked.now.automaton _ c.find_kind-root.ensures _ _
    c.in_ok-i.ensures.1 (sym c.is_stopped.ensures ∙ c.if-is_stopped.false) c.measure.ensures.reached path h c.in_err-links.was)

pub returns : goal.returns
returns c =
    record {
      measured = λ path h. measured (words c.args.asked.now.whole.now) c.args.node c.requires.0.accepted c.args.asked.now.automaton _ c.find_kind-root.ensures _ _
          c.in_ok-i.ensures.1 (sym c.is_stopped.ensures ∙ c.if-is_stopped.false) c.measure.ensures.reached path h _ c.in_ok-links.was;
      edged = (c.measure.ensures.edged, root_node (words c.args.asked.now.whole.now) c.requires.0.accepted _ c.find_kind-root.ensures);
    }
