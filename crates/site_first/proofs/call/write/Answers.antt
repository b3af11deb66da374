-- `site_first::call::write` meets its contract. Assumes nothing.
use borrow.Author.Rules.{rules}
use Rattle.output.proofs.Extending.{extends_filed}
use Rattle.site_first.proofs.call.write.Goals as goal

pub returns : goal.returns
returns c = search (extends_filed, rules)
