-- `dearest::call::dearest` meets its contract. Assumes nothing.
use borrow.Author.Rules.{rules}
use Rattle.dearest.proofs.Answering.{settles_both}
use Rattle.dearest.proofs.call.dearest.Goals as goal

pub returns : goal.returns
returns c =
    let a = c.args in
    settles_both a.doors a.targets a.labels _ _ _ c.answer-outcome.ensures (search rules) (search rules) (search rules) c.withhold.ensures c.settle.ensures
