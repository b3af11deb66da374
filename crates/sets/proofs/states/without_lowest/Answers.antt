-- `states::without_lowest` meets its contract. Assumes nothing.
use native.Mathlib.Omega.{arith}
use Rattle.sets.proofs.StateSets.{has_clear, clear_lt}
use Rattle.sets.proofs.Members.{states_step}
use Rattle.sets.proofs.states.without_lowest.Goals as goal

pub returns : goal.returns
returns c =
    record {
      less = clear_lt c.args.s c.requires;
      has = λ p. has_clear 16 c.args.s p c.requires (omega arith);
      list = states_step 16 c.args.s c.requires (omega arith);
    }
