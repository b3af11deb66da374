-- `walk_check::call::laid_out` meets its contract. Assumes nothing.
use borrow.Author.Rules.{rules}
use Rattle.walk_check.proofs.Going.{laid}
use Rattle.walk_check.proofs.call.laid_out.Goals as goal

pub returns : goal.returns
returns c = laid c.args.walk.now c.check_size.result c.check_size.ensures (search rules) c.word_at-n.ensures
