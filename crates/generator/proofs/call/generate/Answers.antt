-- `generator::call::generate` meets its contract. Assumes nothing.
use borrow.Author.Rules.{rules}
use lib.ListN.{length}
use Rattle.output.proofs.Frame.{settles_lent}
use Rattle.generator.specs.Generate.{spent, generate_call}
use Rattle.generator.proofs.call.generate.Goals as goal

pub returns : goal.returns
returns c =
    let a = c.args in
    let call = generate_call (length a.out.now) (length a.work.now) a.state.now a.nodes a.edges in
    settles_lent {o = call} a.state.now (spent a.state.now a.nodes a.edges) _ _ c.answer-outcome.ensures (search rules) (search rules) c.settle.ensures
