-- `asking::sites::with_byte` meets its contract.
-- Assumes nothing.
use borrow.Author.Rules.{rules}
use Rattle.asking.proofs.Named.{no_site_lem}
use Rattle.asking.proofs.sites.with_byte.Goals as goal

pub returns-else-byte-lt16 : goal.returns-else-byte-lt16
returns-else-byte-lt16 c = search (no_site_lem, rules)
