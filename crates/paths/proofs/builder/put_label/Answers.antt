-- `builder::put_label` meets its contract. Assumes nothing.
use borrow.Author.Rules.{rules}
use Rattle.paths.proofs.Building.{label_does}
use Rattle.paths.proofs.builder.put_label.Goals as goal

pub returns : goal.returns
returns c = search (label_does, rules)
