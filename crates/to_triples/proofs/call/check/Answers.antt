-- `to_triples::call::check` meets its contract. Assumes nothing.
use borrow.Author.Rules.{rules}
use native.Mathlib.Omega.{arith}
use lib.ListN.{length}
use Rattle.files.specs.Limits.{triple_words}
use Rattle.files.proofs.Checks.{ok_zero}
use Rattle.output.proofs.Frame.{works}
use Rattle.to_triples.proofs.Answering.{whole_read}
use Rattle.to_triples.proofs.call.check.Goals as goal

pub check_said-requires : goal.check_said-requires
check_said-requires c =
    let a = c.args in
    let (few, accepted) = whole_read a.whole.now (ok_zero c.in_ok-check_whole.was) c.check_whole.ensures in
    (works triple_words a.out (length a.work.now) (ok_zero c.in_ok-check_room.was) c.check_room.ensures (search rules) (omega arith), few, accepted)
