-- `prepare::fill` meets its contract. The invariant: the positions below x are filled, and it is known whether x is behind a stopped node.
-- Assumes nothing.
use mathlib.Core.Path.{◌≡◌}
use Rattle.files.specs.Word.{words}
use Rattle.paths.specs.Letters.{reads}
use Rattle.slots.specs.Slots.{idle_at}
use Rattle.preparing.proofs.Preparing.{Filling}
use Rattle.preparing.proofs.prepare.fill.Given as goal

abbrev pub invariant-loop-x : goal.invariant-loop-x
invariant-loop-x l = Filling (words l.part) (reads l.a.letters) l.initial.work l.work l.x × (l.idle ≡ idle_at (words l.part) l.x)
