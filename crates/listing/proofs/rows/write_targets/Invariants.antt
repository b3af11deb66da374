-- `listing::rows::write_targets` meets its contract. Assumes nothing.
use mathlib.Core.List.{map}
use Rattle.files.specs.Word.{words}
use Rattle.files.specs.Field.{reach_word}
use Rattle.output.proofs.Writing.{Adding}
use Rattle.listing.specs.Rows.{pairs_up_to}
use Rattle.listing.proofs.rows.write_targets.Given as goal

abbrev pub invariant-loop-k : goal.invariant-loop-k
invariant-loop-k l = Adding l.limit l.initial.out l.start l.out l.at (map reach_word (pairs_up_to (words l.part) l.work l.k))
