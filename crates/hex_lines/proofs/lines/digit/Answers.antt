-- `hex::lines::digit` meets its contract.
-- Assumes nothing.
use borrow.Author.Rules.{rules}
use Rattle.hex_lines.proofs.Digits.{glyph_number, glyph_letter}
use Rattle.hex_lines.proofs.lines.digit.Goals as goal

pub returns-then-d-lt10 : goal.returns-then-d-lt10
returns-then-d-lt10 c = search (glyph_number, rules)

pub returns-else-d-lt10 : goal.returns-else-d-lt10
returns-else-d-lt10 c = search (glyph_letter, rules)
