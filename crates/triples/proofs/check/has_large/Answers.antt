-- `triples::check::has_large` meets its contract. Assumes nothing.
use Rattle.std.proofs.Common.{ℕ, Bool, refl, arith, rules, tests, ◌∙◌}
use Rattle.std.proofs.lemmas.Iterator.{YieldsList-from_range}
use Rattle.std.proofs.lemmas.Iterator.Search.{any_from_yields_List}
use Rattle.files.specs.Word.{words}
use Rattle.triples.specs.At.{large_at}
use Rattle.triples.proofs.Reading.{any_in_range}
use Rattle.triples.proofs.check.has_large.Goals as goal

pub returns : goal.returns
returns c =
    let large : ℕ → Bool = large_at (words c.args.triples.now) in
    let n = c.args.n in
    any_from_yields_List large _ _ c.any.result c.any.ensures.ran (YieldsList-from_range 0 n n refl (omega arith)) (λ x b q k. search (rules, tests))
    ∙ any_in_range large 0 n
