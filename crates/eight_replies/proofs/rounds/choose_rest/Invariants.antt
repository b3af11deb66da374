-- `eight_replies::rounds::choose_rest` meets its contract. Assumes nothing.
use Prim.Native.Nat.{◌-◌}
use mathlib.Core.Path.{◌≡◌}
use lib.ListN.{length}
use Rattle.desks.specs.Owns.{owns}
use Rattle.eight_replies.specs.Rounds.{Stood}
use Rattle.eight_replies.proofs.rounds.choose_rest.Given as goal

abbrev pub invariant-loop-s : goal.invariant-loop-s
invariant-loop-s g l = Stood (length l.initial.out) (owns (g.N.Numbered.number l.whole) l.part l.groups 8 l.paths) l.s l.out × (length l.out ≡ length l.initial.out) × (length l.work ≡ length l.initial.work)

abbrev pub decreases-loop-s : goal.decreases-loop-s
decreases-loop-s g l = 8 - l.s.next
