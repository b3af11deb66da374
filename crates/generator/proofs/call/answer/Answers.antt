-- `generator::call::answer` meets its contract. Assumes nothing.
use borrow.Author.Rules.{rules}
use Rattle.files.proofs.Checks.{ok_zero}
use Rattle.output.proofs.Frame.{answering, lent_kept}
use Rattle.generator.specs.Generate.{generate_call}
use Rattle.generator.proofs.Answering.{writable, responds_written}
use Rattle.generator.proofs.call.answer.Goals as goal

pub returns-in_err-check : goal.returns-in_err-check
unfolding generate_call
returns-in_err-check c = search (answering, lent_kept, rules)

pub write-requires : goal.write-requires
write-requires c = (writable c.args.nodes c.args.edges c.check.ensures (ok_zero c.in_ok-check.was) (search rules)).1

pub returns : goal.returns
returns c =
    let a = c.args in
    responds_written a.nodes a.edges c.check.ensures a.generator.now.state (ok_zero c.in_ok-check.was) c.write.ensures
