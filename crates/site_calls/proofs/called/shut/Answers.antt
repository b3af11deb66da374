-- `site_calls::called::shut` meets its contract. Assumes nothing.
use Rattle.site_calls.specs.Called.{shut_at}
use Rattle.site_calls.proofs.called.shut.Goals as goal

pub returns : goal.returns
unfolding shut_at
returns c = cc
