-- `to_triples::say::has_unsaid` meets its contract. Assumes nothing.
use Rattle.std.proofs.Common.{ℕ, ◌/◌, ◌≤◌, Bool, length, refl, sym, ◌∙◌, ap, arith, rules, tests}
use Rattle.std.proofs.lemmas.Iterator.{YieldsList-from_range, serves_from_Range}
use Rattle.std.proofs.lemmas.Iterator.Search.{any_from_yields_List}
use Rattle.sets.specs.Sets.{any, span}
use Rattle.sets.specs.NodeSet.{has_node}
use Rattle.files.specs.Word.{words}
use Rattle.files.proofs.Words.{words_length}
use Rattle.triples.proofs.Reading.{any_in_range}
use Rattle.to_triples.specs.Say.{unsaid_at}
use Rattle.to_triples.proofs.say.has_unsaid.Goals as goal

pub returns : goal.returns
returns c =
    let whole = c.args.whole.now in
    let n = length whole / 4 in
    let unsaid : ℕ → Bool = unsaid_at (has_node c.args.work.now 0) (words whole) in
    any_from_yields_List unsaid _ _ c.any.result c.any.ensures.ran (YieldsList-from_range 0 n n refl (omega arith)) (λ x b q k. search (rules, tests))
    ∙ any_in_range unsaid 0 n ∙ ap (λ n. any unsaid (span 0 n)) (sym (words_length whole))

pub any-requires-clause-callable : goal.any-requires-clause-callable
any-requires-clause-callable c =
    let few : length c.args.whole.now / 4 ≤ 4096 = omega (arith, words_length c.args.whole.now) in
    serves_from_Range (λ x q k. search (rules, tests)) (λ x from before. search rules)
