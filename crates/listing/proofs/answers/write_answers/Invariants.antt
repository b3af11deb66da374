-- `listing::answers::write_answers` meets its contract. Assumes nothing.
use Rattle.files.specs.Word.{words}
use Rattle.output.proofs.Writing.{Adding}
use Rattle.listing.specs.Listing.{answer_words}
use Rattle.listing.proofs.answers.write_answers.Given as goal

abbrev pub invariant-loop-i : goal.invariant-loop-i
invariant-loop-i l = Adding l.limit l.initial.out l.start l.out l.count (answer_words (words l.part) l.work l.accepts l.i)
