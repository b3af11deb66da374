-- `output::writer::push` meets its contract. Assumes nothing.
use mathlib.Core.Path.{refl}
use mathlib.Core.List.{[], ◌∷◌}
use borrow.Author.Rules.{rules}
use Rattle.output.proofs.Writing.{written_more, put_full, writes_counted}
use Rattle.output.proofs.writer.push.Goals as goal

pub returns-then-count-limit : goal.returns-then-count-limit
returns-then-count-limit c ws r = search (written_more, rules)

pub returns : goal.returns
returns c = writes_counted (_ ∷ []) (λ ws r. put_full _ _ ws _ c.if-count-limit.false r) c.advance.ensures refl
