-- `walk_check::plant::root_of` meets its contract. Assumes nothing.
use Rattle.files.specs.Word.{words}
use Rattle.walk_check.proofs.Standing.{root_is}
use Rattle.walk_check.proofs.plant.root_of.Goals as goal

pub returns : goal.returns
returns c =
    root_is (words c.args.whole.now) c.requires c.find_kind-i.ensures c.word_at.ensures c.node.ensures
