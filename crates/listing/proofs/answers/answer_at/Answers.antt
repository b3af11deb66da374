-- `listing::answers::answer_at` meets its contract. Assumes nothing.
use borrow.Author.Rules.{rules}
use Rattle.listing.proofs.Answering.{number_small}
use Rattle.listing.proofs.answers.answer_at.Goals as goal

pub answer_word-requires : goal.answer_word-requires
answer_word-requires c = search (number_small, rules)
