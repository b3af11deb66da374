-- `hex::lines::hex_line` meets its contract.
-- Assumes nothing.
use borrow.Author.Rules.{rules}
use Rattle.hex_lines.proofs.Digits.{line_is}
use Rattle.hex_lines.proofs.lines.hex_line.Goals as goal

pub returns : goal.returns
returns c = search (line_is, rules)
