-- `walk_steps::stepping::accepting` meets its contract. Assumes nothing.
use borrow.Author.Rules.{rules}
use Rattle.walk_steps.proofs.Advancing.{accepts_some}
use Rattle.walk_steps.proofs.stepping.accepting.Goals as goal

pub returns : goal.returns
returns c = accepts_some _ _ (search rules)
