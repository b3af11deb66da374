-- `listing::rows::row_length` meets its contract. Assumes nothing.
use Rattle.listing.proofs.Rowing.{Counting}
use Rattle.listing.proofs.rows.row_length.Given as goal

abbrev pub invariant-loop-k : goal.invariant-loop-k
invariant-loop-k l = Counting l.work l.k l.n
