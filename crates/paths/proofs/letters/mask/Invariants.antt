-- `letters::mask` meets its contract. The invariant: what is gathered, with what the positions that are left still give, are the positions that
-- read the label. Assumes nothing.
use Rattle.paths.proofs.Lettering.{Masking}
use Rattle.paths.proofs.letters.mask.Given as goal

abbrev pub invariant-loop-p : goal.invariant-loop-p
invariant-loop-p l = Masking l.l l.label l.p-iterator.0 l.r
