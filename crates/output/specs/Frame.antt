-- Inner. The frame of every call: its checks passed, its file is closed, it has answered, and is settled.
use Rattle.std.specs.Prelude.{◌≡◌, cond, List, [], ◌∷◌, ℕ, zero, suc, ◌-◌, ◌*◌, ◌/◌, ◌%◌, ◌^◌, ◌≤◌, ◌<◌, leb, length}
use Rattle.files.specs.Word.{words, put_word}
use Rattle.files.specs.Field.{header_word, file}
use Rattle.files.specs.Refuse.{◌then◌, room_check, size_check}
use Rattle.files.specs.Outcome.{Outcome, Left, zeros, left, leaves}
use Rattle.files.specs.Limits.{work_bytes}
use Rattle.output.specs.Writer.{Written, Filed}

-- A check of a call behind that of its room: an input of at most `most` words, for whose words c is the number; or one more number c, over
-- inputs that passed
pub data Check : Type 0 where
  input : (most : ℕ) (s : List ℕ) (c : ℕ) → Check
  also : (c : ℕ) → Check

infixr 20 ◌thenAll◌
-- the number n, then those of the checks
abbrev pub ◌thenAll◌ : ℕ → List Check → ℕ
n thenAll [] = n
n thenAll (input most s c ∷ cs) = n then (size_check most s then (c thenAll cs))
n thenAll (also c ∷ cs) = n then (c thenAll cs)

-- r is the number of a call's checks: the room of its buffers comes first
pub record Checked (limit out work : ℕ) (cs : List Check) (r : ℕ) : Type 0 where
  pub is : r ≡ (room_check limit out work thenAll cs)

-- an output of `out` bytes holds a result at its limit, and the working buffer is long enough
pub record RoomFor (limit out work : ℕ) : Type 0 where
  pub holds : 4 * limit ≤ out
  pub works : work_bytes ≤ work

-- an input of at most `most` words, whose check c passed
pub record InputRead (most : ℕ) (s : List ℕ) (c : ℕ) : Type 0 where
  pub some : 0 < length (words s)
  pub few : length (words s) ≤ most
  pub size : length s / 4 ≤ most
  pub sized : size_check most s ≡ 0
  pub read : c ≡ 0

-- what the checks of a call say when all pass
abbrev pub InputsRead : List Check → Type 0
InputsRead [] = Unit {0}
InputsRead (input most s c ∷ cs) = InputRead most s c × InputsRead cs
InputsRead (also c ∷ cs) = (c ≡ 0) × InputsRead cs

-- a call may write: there is room, and its inputs are read
pub record Passed (limit out work : ℕ) (cs : List Check) : Type 0 where
  pub room : RoomFor limit out work
  pub read : InputsRead cs

-- the header of a file from word `at` to before word `end`, put where that is within the limit
abbrev pub closed_at : ℕ → ℕ → ℕ → ℕ → ℕ → ℕ → List ℕ → List ℕ
closed_at kind site n limit at end out = cond (leb end limit) (put_word out at (header_word kind site n ((end - at) % 2 ^ 14))) out

-- the header is put before whatever was written behind its place, as out'; r is 15 if that is over the limit, else 0
pub record Closes (kind site n limit : ℕ) (out : List ℕ) (count : ℕ) (out' : List ℕ) (r : ℕ) : Type 0 where
  pub fits : (0 < limit) × (4 * limit ≤ length out)
  pub closed : (body : List ℕ) → Written limit (length out) (0 ∷ body) out count → Filed limit (length out) (file kind site n body) out' r

-- the outcome's number is r, and if that is 0 its output stands in `out`, which has n bytes: all that is left is to settle
pub record Responds (o : Outcome) (n : ℕ) (out : List ℕ) (r : ℕ) : Type 0 where
  pub number : r ≡ (leaves o n 0).number
  pub output : r ≡ 0 → out ≡ (leaves o n 0).output

-- an output at the end of a call, by the call's number: a refusal zeroes it
unfoldable pub withheld : ℕ → List ℕ → List ℕ
withheld zero output = output
withheld (suc k) output = zeros (length output)

-- the end of every call, by its number: the working buffer is zeroed, and after a refusal the output too
unfoldable pub settled : ℕ → List ℕ → List ℕ → Left
settled number output work = left number (withheld number output) (zeros (length work))
