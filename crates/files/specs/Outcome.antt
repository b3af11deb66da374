-- Believed. What a call answers, and what it leaves in the caller's buffers. Document 01, "Numbered refusals", after the table.
use Rattle.std.specs.Prelude.{ℕ, zero, suc, ◌-◌, ◌*◌, cond, List, ◌++◌, leb, length, replicate}
use Rattle.files.specs.Word.{bytes_of}

-- what a call answers: a refusal under a number, or a result
pub data Outcome : Type 0 where
  refused : (k : ℕ) → Outcome
  accepted : (result : List ℕ) → Outcome

-- the checks' number, or the result if it is not over its limit: 15 comes last
abbrev pub outcome : ℕ → ℕ → List ℕ → Outcome
outcome (suc k) limit result = refused (suc k)
outcome zero limit result = cond (leb (length result) limit) (accepted result) (refused 15)

abbrev pub zeros : ℕ → List ℕ
zeros n = replicate n 0

-- n bytes: those of the words, and zeros past them
abbrev pub padded : ℕ → List ℕ → List ℕ
padded n ws = bytes_of ws ++ zeros (n - 4 * length ws)

-- what a call leaves: its number, its output and its working buffer
pub record Left : Type 0 where
  pub number : ℕ
  pub output : List ℕ
  pub work : List ℕ

abbrev pub left : ℕ → List ℕ → List ℕ → Left
left number output work = record { number = number; output = output; work = work }

-- what a call leaves of an output of n and a working buffer of m bytes: after acceptance the number is 0, and output past the result
-- and the working buffer are zero; a refusal zeroes both
abbrev pub leaves : Outcome → ℕ → ℕ → Left
leaves (refused k) n m = left k (zeros n) (zeros m)
leaves (accepted result) n m = left 0 (padded n result) (zeros m)

-- what a call leaves that is lent a number: the number as it is given back, and the rest
pub record LeftLent : Type 0 where
  pub lent : ℕ
  pub rest : Left

abbrev pub left_lent : ℕ → Left → LeftLent
left_lent lent rest = record { lent = lent; rest = rest }

-- the lent number, which a refusal leaves as `kept`, and acceptance as `given`
abbrev pub lent_by : Outcome → ℕ → ℕ → ℕ
lent_by (refused k) kept given = kept
lent_by (accepted result) kept given = given

abbrev pub leaves_lent : Outcome → ℕ → ℕ → ℕ → ℕ → LeftLent
leaves_lent o kept given n m = left_lent (lent_by o kept given) (leaves o n m)
