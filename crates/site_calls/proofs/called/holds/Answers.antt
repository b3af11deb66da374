-- `site_calls::called::holds` meets its contract. Assumes nothing.
use Rattle.site_calls.specs.Called.{holds_at}
use Rattle.site_calls.proofs.called.holds.Goals as goal

pub returns : goal.returns
unfolding holds_at
returns c = cc
