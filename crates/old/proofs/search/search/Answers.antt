-- `old::search::search` meets its contract. Assumes nothing.
use native.Mathlib.Omega.{arith}
use Rattle.files.specs.Word.{words}
use Rattle.part_search.proofs.Seeding.{closed_blank}
use Rattle.old.proofs.RootSearch.{root_is, root_node, root_answers}
use Rattle.old.proofs.search.search.Goals as goal

pub seed-top-requires : goal.seed-top-requires
seed-top-requires c =
    (c.prepare-outside.ensures.begun, root_node _ _ (root_is (words c.args.whole.now) c.requires.0 _ c.find_kind-i.ensures), omega arith)

pub run-requires : goal.run-requires
run-requires c =
    let follow = c.args.a.follow in
    (c.seed-top.ensures.begun, c.seed-top.ensures.closed follow (closed_blank _ _ follow c.prepare-outside.ensures.blank))

pub returns : goal.returns
returns c =
    let whole = words c.args.whole.now in
    root_answers whole c.requires.0 _ (root_is whole c.requires.0 _ c.find_kind-i.ensures) c.args.a (omega (arith, c.well_formed)) _ _ _ _ _
    c.prepare-outside.ensures c.seed-top.ensures c.run.ensures
