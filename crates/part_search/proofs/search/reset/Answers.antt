-- `search::reset` meets its contract. The invariant: the positions below i have no marks. Assumes nothing.
use Prim.Native.Nat.{◌≤◌, ◌<◌}
use native.Mathlib.Omega.{arith}
use lib.ListN.{length}
use Rattle.files.specs.Word.{words}
use Rattle.files.proofs.Words.{words_length}
use Rattle.files.specs.Limits.{part_words, work_bytes}
use Rattle.part_search.proofs.Seeding.{forget_more, forget_all}
use Rattle.part_search.proofs.search.reset.Goals.{In-loop-i}
use Rattle.part_search.proofs.search.reset.Goals as goal

-- the position at hand is a word's, and the tables have its place
room : (t : In-loop-i)
    → (t.loop-i.i < length (words t.args.part.now)) × (length (words t.args.part.now) ≤ part_words) × (work_bytes ≤ length t.loop-i.work)
room t =
    let l = t.requires.roomy in
    (omega (arith, words_length t.args.part.now, t.loop-i-test.true), l.few, omega (arith, l.long, t.loop-i.invariant.kept.long))

pub forget-requires : goal.forget-requires
forget-requires c = room (goal.at.forget-requires c).In-loop-i

pub loop-i-preserved : goal.loop-i-preserved
loop-i-preserved c = forget_more (omega (arith, room (goal.at.loop-i-preserved c).In-loop-i)) c.loop-i.invariant c.forget.ensures

pub returns : goal.returns
returns c =
    forget_all (omega (arith, words_length c.args.part.now, c.loop-i-test.false)) c.requires c.loop-i.invariant
