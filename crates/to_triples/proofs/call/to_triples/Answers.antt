-- `to_triples::call::to_triples` meets its contract. Assumes nothing.
use borrow.Author.Rules.{rules}
use mathlib.Core.Path.{◌∙◌}
use Rattle.to_triples.proofs.Answering.{number_and, call_left}
use Rattle.to_triples.proofs.call.to_triples.Goals as goal

pub returns : goal.returns
returns c =
    call_left _ _ _ (rw (c.and.ensures, number_and) at c.settle.ensures) (search rules) (search rules) c.answer-answered.ensures.0
    (c.unwrap_or.ensures ∙ c.answer-answered.ensures.1)
