-- `listing::answers::write_answers` meets its contract. Assumes nothing.
use borrow.Author.Rules.{rules}
use native.Mathlib.Omega.{arith}
use Rattle.files.proofs.Words.{words_length}
use Rattle.listing.proofs.Answering.{answers_none, answers_more, answers_all}
use Rattle.listing.proofs.answers.write_answers.Goals as goal

pub loop-i-init : goal.loop-i-init
loop-i-init c = answers_none _ _ _ _ _ _

pub write_answer-count-requires : goal.write_answer-count-requires
write_answer-count-requires c = omega (arith, words_length c.args.part.now, c.loop-i.invariant.same)

pub loop-i-preserved : goal.loop-i-preserved
loop-i-preserved c = search (answers_more, rules)

pub returns : goal.returns
returns c = answers_all _ _ _ (omega (arith, words_length c.args.part.now)) c.loop-i.invariant
