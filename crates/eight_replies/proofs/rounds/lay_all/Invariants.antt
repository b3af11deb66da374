-- `eight_replies::rounds::lay_all` meets its contract. Assumes nothing.
use mathlib.Core.Path.{◌≡◌}
use lib.ListN.{length}
use Rattle.desks.specs.Owns.{owns}
use Rattle.eight_replies.proofs.Laying.{Laying}
use Rattle.eight_replies.proofs.rounds.lay_all.Given as goal

abbrev pub invariant-loop-i : goal.invariant-loop-i
invariant-loop-i g l = Laying (length l.initial.out) (owns (g.N.Numbered.number l.whole) l.part l.groups 8 l.paths) l.desks l.i l.s l.out × (length l.out ≡ length l.initial.out) × (length l.work ≡ length l.initial.work)
