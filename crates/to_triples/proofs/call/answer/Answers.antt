-- `to_triples::call::answer` meets its contract. Assumes nothing.
use borrow.Author.Rules.{rules}
use native.Mathlib.Omega.{arith}
use Rattle.files.proofs.Checks.{code_some, ok_zero}
use Rattle.to_triples.proofs.Answering.{writable, counted, responds_refused, responds_written}
use Rattle.to_triples.specs.To.{to_call}
use Rattle.to_triples.proofs.call.answer.Goals as goal

pub returns-in_err-check : goal.returns-in_err-check
unfolding to_call
returns-in_err-check c = search (responds_refused, code_some, rules)

pub write-requires : goal.write-requires
write-requires c = writable _ c.check.ensures (ok_zero c.in_ok-check.was) (search rules)

pub overflow_cast-result : goal.overflow_cast-result
overflow_cast-result c = omega (arith, c.write.ensures.1, counted _ c.check.ensures (ok_zero c.in_ok-check.was))

pub returns : goal.returns
returns c = responds_written _ c.check.ensures (ok_zero c.in_ok-check.was) c.write.ensures
