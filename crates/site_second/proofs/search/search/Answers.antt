-- `site_second::search::search` meets its contract. Assumes nothing.
use native.Mathlib.Omega.{arith}
use Rattle.site_second.proofs.Replying.{called_answers}
use Rattle.site_second.proofs.search.search.Goals as goal

pub run-requires : goal.run-requires
run-requires c = (c.seed_called-top.ensures.begun, c.seed_called-top.ensures.closed c.args.a.follow)

pub returns : goal.returns
returns c =
    called_answers _ _ c.args.a (omega (arith, c.well_formed)) _ _ _ _ _ c.prepare-outside.ensures c.seed_called-top.ensures c.run.ensures
