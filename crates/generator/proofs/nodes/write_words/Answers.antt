-- `generator::nodes::write_words` meets its contract. Assumes nothing.
use Rattle.std.proofs.Common.{[], ◌∷◌, add-one}
use lib.ListN.{get_or}
use lib.Seq.{take-suc}
use Rattle.output.proofs.Writing.{adding_more}
use Rattle.generator.proofs.nodes.write_words.Goals as goal

pub loop-word-preserved : goal.loop-word-preserved
loop-word-preserved c =
    let words = c.args.words.now in
    let index = c.loop-word.word-index in
    rw (add-one, take-suc words index 0 c.loop-word-test.true)
    (adding_more (get_or words index 0 ∷ []) c.loop-word.invariant c.push-count.auto.out c.push-count.ensures)
