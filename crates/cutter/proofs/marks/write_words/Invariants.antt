-- `cutter::marks::write_words` meets its contract.
-- Assumes nothing.
use Rattle.files.specs.Word.{words}
use Rattle.files.specs.Read.{left_of}
use Rattle.cutter.proofs.Passes.{Cutting}
use Rattle.cutter.proofs.marks.write_words.Given as goal

abbrev pub invariant-loop-w : goal.invariant-loop-w
invariant-loop-w l = Cutting (words l.whole) l.cuts l.site l.doors l.initial.out l.count l.out l.place l.n (left_of l.w-iterator)
