-- Believed. What desks that share one reply are told, and where each of them finds its own. Document 02, request 11: "The chosen replies stand one
-- after another in the order of asking, and every desk gets 0 or its refusal."
use Rattle.std.specs.Prelude.{ℕ, zero, suc, ◌/◌, ◌%◌, ◌≡◌, cond, eqb, length}
use mathlib.Core.List.{List, [], map, flatten}
use Rattle.files.specs.Word.{bytes_of}
use Rattle.files.specs.Outcome.{Outcome, refused, accepted, zeros, padded, Left, left}
use Rattle.path_bundles.specs.Split.{file_in, behind}
use Rattle.path_bundles.specs.Packed.{packed, byte_at}
use Rattle.choices.specs.Choice.{Desk, numbers, put_in}

-- a desk by what the call for its path alone answers, and the words of its reply
abbrev pub desk_of : Outcome → Desk
desk_of (refused k) = record { number = k; size = 0 }
desk_of (accepted ws) = record { number = 0; size = length ws }

abbrev pub reply_of : Outcome → List ℕ
reply_of (refused k) = []
reply_of (accepted ws) = ws

-- what each desk is told, and the shared reply
abbrev pub numbers_of : List Outcome → List ℕ
numbers_of os = numbers (map desk_of os)

abbrev pub shared : List Outcome → List ℕ
shared os = flatten (put_in (numbers_of os) (map reply_of os))

-- what a call leaves of an output of n and a working buffer of m bytes, where desks share one reply that by themselves would be answered os
abbrev pub leaves_shared : List Outcome → ℕ → ℕ → Left
leaves_shared os n m = left (packed (numbers_of os)) (padded n (shared os)) (zeros m)

-- Where desk i looks, the first being desk 0: behind the replies of the desks before it whose number is 0, as far as their headers say.
abbrev pub seek : ℕ → ℕ → List ℕ → List ℕ
seek zero numbers output = output
seek (suc i) numbers output = seek i (numbers / 256) (cond (eqb (numbers % 256) 0) (behind output) output)

-- a desk is told 0, and the file that it finds has the words ws
pub record Served (l : Left) (i : ℕ) (ws : List ℕ) : Type 0 where
  pub told : byte_at i l.number ≡ 0
  pub finds : file_in (seek i l.number l.output) ≡ bytes_of ws
