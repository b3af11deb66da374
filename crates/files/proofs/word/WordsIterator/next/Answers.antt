-- `files::word::WordsIterator::next` meets its contract.
-- Assumes nothing.
use Rattle.files.proofs.Reading.{taken}
use Rattle.files.proofs.word.WordsIterator.next.Goals as goal

pub returns-clause-steps : goal.returns-clause-steps
returns-clause-steps c = (taken _ _ c.in_ok-word.was c.read.ensures).left
