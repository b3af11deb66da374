-- `wholes::whole::has_lost` meets its contract.
-- Assumes nothing.
use Rattle.std.proofs.Common.{rules, tests}
use Rattle.std.proofs.lemmas.Iterator.Consumers.{YieldsList-from_first}
use Rattle.std.proofs.lemmas.Iterator.Search.{any_from_yields_List}
use Rattle.sets.specs.NodeSet.{has_node}
use Rattle.files.specs.Word.{words}
use Rattle.files.specs.Read.{left_of}
use Rattle.files.specs.Part.{lost}
use Rattle.wholes.proofs.whole.has_lost.Goals as goal

pub returns : goal.returns
returns c =
    let p = lost (has_node c.args.work.now 0) in
    any_from_yields_List p c.any.new.self _ c.any.result c.any.ensures.ran (YieldsList-from_first (λ x. x) left_of {s = c.of.result} (words c.args.bytes.now) c.of.ensures)
    (λ x b q k. search (rules, tests))
