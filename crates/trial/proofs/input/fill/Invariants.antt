-- `trial::input::fill`: what was read is within the buffer, and each turn reads some.
use Rattle.std.proofs.Common.{◌-◌, ◌≤◌, length}
use Rattle.trial.proofs.input.fill.Given as goal

abbrev pub invariant-loop-at : goal.invariant-loop-at
invariant-loop-at l = l.at ≤ length l.buf

abbrev pub decreases-loop-at : goal.decreases-loop-at
decreases-loop-at l = length l.initial.buf - l.at
