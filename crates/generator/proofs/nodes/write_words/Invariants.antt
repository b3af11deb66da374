-- `generator::nodes::write_words` meets its contract. Assumes nothing.
use Rattle.std.proofs.Common.{take}
use Rattle.files.specs.Limits.{part_words}
use Rattle.output.proofs.Writing.{Adding}
use Rattle.generator.proofs.nodes.write_words.Given as goal

abbrev pub invariant-loop-word : goal.invariant-loop-word
invariant-loop-word l = Adding part_words l.initial.out l.start l.out l.count (take l.word-index l.words)
