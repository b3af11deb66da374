-- `files::word::word_at` meets its contract.
-- Assumes nothing.
use borrow.Author.Rules.{rules}
use Rattle.files.proofs.Words.{words_at_lem, words_past}
use Rattle.files.proofs.word.word_at.Goals as goal

pub returns-then-bytes-at : goal.returns-then-bytes-at
returns-then-bytes-at c = search (words_past, rules)

pub returns : goal.returns
returns c = search (words_at_lem, rules)
