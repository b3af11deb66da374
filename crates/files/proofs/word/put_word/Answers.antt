-- `files::word::put_word` meets its contract.
-- Assumes nothing.
use borrow.Author.Rules.{rules}
use native.Mathlib.Omega.{arith}
use lib.ListN.{length-set}
use Rattle.files.proofs.Words.{put_at, put_past}
use Rattle.files.proofs.word.put_word.Goals as goal

pub bounds-out-i-then-at-out : goal.bounds-out-i-then-at-out
bounds-out-i-then-at-out c = simp length-set (omega arith)

pub bounds-out-i-then-at-out-2 : goal.bounds-out-i-then-at-out-2
bounds-out-i-then-at-out-2 c = simp length-set (omega arith)

pub bounds-out-i-then-at-out-3 : goal.bounds-out-i-then-at-out-3
bounds-out-i-then-at-out-3 c = simp length-set (omega arith)

pub returns-then-at-out : goal.returns-then-at-out
returns-then-at-out c = search (put_at, rules)

pub returns-else-at-out : goal.returns-else-at-out
returns-else-at-out c = search (put_past, rules)
