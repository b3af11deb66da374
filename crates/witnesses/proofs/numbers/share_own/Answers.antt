-- `witnesses::numbers::share_own` meets its contract. Assumes nothing.
use mathlib.Core.Path.{◌∙◌, ap}
use native.Mathlib.Nat.{sub-zero}
use Rattle.files.specs.Outcome.{zeros}
use Rattle.desks.specs.Owns.{owns, chosen}
use Rattle.witnesses.proofs.numbers.share_own.Goals as goal

pub returns-clause-numbers : goal.returns-clause-numbers
unfolding owns chosen
returns-clause-numbers c = c.share.ensures.numbers_are

pub returns-clause-output : goal.returns-clause-output
unfolding owns chosen
returns-clause-output c = c.share.ensures.output ∙ ap zeros (sub-zero _)
