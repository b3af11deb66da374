-- `dearest::path::write_ranges` meets its contract. Assumes nothing.
use Rattle.std.proofs.Common.{[], ◌∷◌, ◌+◌, ◌-◌, length, arith}
use borrow.Author.Rules.{rules}
use Rattle.files.specs.Limits.{path_words}
use Rattle.files.specs.Path.{operator_word}
use Rattle.sets.proofs.Spans.{each}
use Rattle.output.specs.Writer.{Writes}
use Rattle.output.proofs.Writing.{behind}
use Rattle.output.proofs.Spanning.{spanning_first, spanning_more, spanning_last}
use Rattle.dearest.specs.Answer.{range_of}
use Rattle.dearest.proofs.Writing.{ranges_are}
use Rattle.dearest.proofs.path.write_ranges.Goals.{else-loop-k-test, then-loop-k-test+else-k-labels}
use Rattle.dearest.proofs.path.write_ranges.Goals as goal

pub loop-k-init : goal.loop-k-init
loop-k-init c = spanning_first (search rules)

pub loop-k-preserved : goal.loop-k-preserved
loop-k-preserved c =
    spanning_more c.loop-k.invariant (search rules) (search rules) c.write_range-count.ensures

-- after the last range, or where there is none
pub returns : goal.returns
returns c =
    let labels = c.args.labels in
    let out = c.args.out.now in
    let ranges : Writes path_words (length out) out c.args.start c.loop-k-test.out c.loop-k-test.count (each range_of 1 (labels + 1 - 1)) =
    elim c.loop-k-test.branch [
      | else-loop-k-test w ↦ rw (w.out-is, w.count-is) (spanning_last c.loop-k.invariant (omega arith))
      | then-loop-k-test+else-k-labels w ↦ rw (w.out-is, w.count-is) (spanning_last (spanning_more c.loop-k.invariant (omega arith) w.write_range-count.auto.out w.write_range-count.ensures) (omega arith))
    ] in
    rw (← ranges_are labels c.requires.0) (behind (each range_of 1 (labels + 1 - 1)) (operator_word 3 ∷ []) ranges (search rules)
    (rw c.operator_word.ensures at c.push.ensures))
