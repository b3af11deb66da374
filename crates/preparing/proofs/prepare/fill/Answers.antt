-- `prepare::fill` meets its contract. The invariant: the positions below x are filled, and it is known whether x is behind a stopped node.
-- Assumes nothing.
use mathlib.Core.Path.{◌≡◌}
use Prim.Native.Nat.{◌≤◌, ◌<◌}
use native.Mathlib.Omega.{arith}
use lib.ListN.{length}
use Rattle.files.specs.Word.{words}
use Rattle.files.proofs.Words.{words_length}
use Rattle.files.specs.Limits.{part_words, work_bytes}
use Rattle.slots.specs.Slots.{idle_at}
use Rattle.preparing.proofs.Preparing.{fill_more, fill_all}
use Rattle.preparing.proofs.prepare.fill.Goals.{In-loop-x}
use Rattle.preparing.proofs.prepare.fill.Goals as goal

-- the tables have a place for position x
room : (t : In-loop-x) → (t.loop-x.x < part_words) × (work_bytes ≤ length t.loop-x.work) × (t.loop-x.idle ≡ idle_at (words t.args.part.now) t.loop-x.x)
room t = (
  omega (arith, words_length t.args.part.now, t.loop-x-test.true, t.requires.0),
  omega (arith, t.requires.1, t.loop-x.invariant.0.unmoved.long),
  t.loop-x.invariant.1,
)

pub fill_at-requires : goal.fill_at-requires
fill_at-requires c = room (goal.at.fill_at-requires c).In-loop-x

pub loop-x-preserved : goal.loop-x-preserved
loop-x-preserved c = (
  fill_more (room (goal.at.loop-x-preserved c).In-loop-x).0 c.loop-x.invariant.0 c.fill_at.ensures,
  c.idle_behind-idle.ensures,
)

pub returns : goal.returns
returns c =
    fill_all (omega (arith, words_length c.args.part.now, c.loop-x-test.false)) c.loop-x.invariant.0
