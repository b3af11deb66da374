-- `follow::follow_all` meets its contract. The invariant: what is gathered, with what may follow the states that are left, is what may
-- follow the whole set. Assumes nothing.
use mathlib.Core.Logic.{◌↔◌}
use Prim.Native.Nat.{ℕ}
use Rattle.sets.specs.Follow.{MayFollow}
use Rattle.sets.proofs.Following.{Gathered}
use Rattle.sets.proofs.follow.follow_all.Given as goal

abbrev pub invariant-loop-q : goal.invariant-loop-q
invariant-loop-q l = (p : ℕ) → Gathered l.follow l.r l.q-iterator.0 p ↔ MayFollow l.follow l.set p
