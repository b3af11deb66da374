-- `site_calls::called::call_node` meets its contract. Assumes nothing.
use native.Mathlib.Omega.{arith}
use Rattle.site_calls.specs.Called.{call_at}
use Rattle.site_calls.proofs.called.call_node.Goals as goal

pub returns : goal.returns
unfolding call_at
returns c = (omega arith, omega arith)
