-- Believed. What a call with several numbers leaves. Document 02, request 6: the numbers are one, a byte each, the first path's the lowest.
use Rattle.std.specs.Prelude.{ℕ, zero, suc, ◌+◌, ◌*◌, ◌/◌, ◌%◌, List, [], ◌∷◌, map}
use Rattle.files.specs.Outcome.{Outcome, zeros, leaves}

abbrev pub packed : List ℕ → ℕ
packed [] = 0
packed (n ∷ ns) = n + 256 * packed ns

-- the number at an index
abbrev pub byte_at : ℕ → ℕ → ℕ
byte_at zero p = p % 256
byte_at (suc i) p = byte_at i (p / 256)

-- the numbers, the outputs and the working buffer
pub record LeftSeveral : Type 0 where
  pub numbers : ℕ
  pub outputs : List (List ℕ)
  pub work : List ℕ

abbrev pub left_several : ℕ → List (List ℕ) → List ℕ → LeftSeveral
left_several numbers outputs work = record { numbers = numbers; outputs = outputs; work = work }

-- an outcome's number
abbrev pub number_of : Outcome → ℕ
number_of o = (leaves o 0 0).number

-- outputs of ns bytes, each by its own outcome
abbrev pub outputs_of : List Outcome → List ℕ → List (List ℕ)
outputs_of [] ns = []
outputs_of (o ∷ os) [] = []
outputs_of (o ∷ os) (n ∷ ns) = (leaves o n 0).output ∷ outputs_of os ns

-- what a call leaves that has an outcome for each of its outputs, of ns bytes; the working buffer, of m bytes, is zero
abbrev pub leaves_several : List Outcome → List ℕ → ℕ → LeftSeveral
leaves_several os ns m = left_several (packed (map number_of os)) (outputs_of os ns) (zeros m)
