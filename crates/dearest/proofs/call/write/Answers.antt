-- `dearest::call::write` meets its contract. Assumes nothing.
use Rattle.files.proofs.Checks.{ok_zero}
use Rattle.dearest.proofs.Answering.{part_taken, written}
use Rattle.dearest.proofs.call.write.Goals as goal

pub returns-in_err-write_part : goal.returns-in_err-write_part
returns-in_err-write_part c = absurd (part_taken _ c.requires c.in_err-write_part.ensures)

pub returns : goal.returns
returns c = written c.requires c.write_part.ensures (ok_zero c.in_ok-write_part.was) c.write_path.ensures
