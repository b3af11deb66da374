-- `states::has` meets its contract. Assumes nothing.
use borrow.Author.Rules.{rules}
use Rattle.sets.specs.States.{has_state}
use Rattle.sets.proofs.states.has.Goals as goal

pub returns : goal.returns
unfolding has_state
returns c = search rules
