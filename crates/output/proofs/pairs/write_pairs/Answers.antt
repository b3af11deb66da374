-- `output::pairs::write_pairs` meets its contract. Assumes nothing.
use Rattle.output.proofs.Spelling.{spelling_none, spelling_more, spelling_all}
use Rattle.output.proofs.pairs.write_pairs.Goals as goal

pub loop-q-init : goal.loop-q-init
loop-q-init c = rw c.into_iter-q-iterator.ensures.into_iter_gives (spelling_none _ _ _ _ _ _)

pub loop-q-preserved : goal.loop-q-preserved
loop-q-preserved c = spelling_more c.loop-q.invariant c.in-Some.ensures.steps.0 c.in-Some.ensures.steps.1 c.pair_word-w.ensures c.push-count.auto.out c.push-count.ensures

pub returns : goal.returns
returns c = spelling_all c.in-None.ensures.steps.0 c.loop-q.invariant
