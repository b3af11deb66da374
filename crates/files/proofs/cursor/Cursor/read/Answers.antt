-- `files::cursor::Cursor::read` meets its contract.
-- Assumes nothing.
use Rattle.files.proofs.Reading.{read_word, read_end}
use Rattle.files.proofs.cursor.Cursor.read.Goals as goal

pub returns-then-at-bytes : goal.returns-then-at-bytes
returns-then-at-bytes c = read_word _ _ _ c.if-at-bytes.true c.word_at.ensures

pub returns-else-at-bytes : goal.returns-else-at-bytes
returns-else-at-bytes c = read_end _ _ c.if-at-bytes.false
