-- Inner. A call with two outputs: its checks, what it may write, and what each output answers. And the words of one label.
use Rattle.std.specs.Prelude.{◌≡◌, cond, List, [], ◌∷◌, ℕ, ◌*◌, ◌≤◌, ltb}
use Rattle.files.specs.Path.{operator_word}
use Rattle.files.specs.Refuse.{room_check}
use Rattle.files.specs.Outcome.{Outcome, outcome}
use Rattle.files.specs.Limits.{part_words, path_words}
use Rattle.output.specs.Frame.{Check, also}
use Rattle.dearest.specs.Dearest.{dear_part, full_range, dear_path, counts_check}

-- behind the room of the part: the room of the path, of b bytes, and the counts
abbrev pub checks : ℕ → ℕ → ℕ → ℕ → ℕ → List Check
checks b m D T n = also (room_check path_words b m) ∷ also (counts_check D T n) ∷ []

-- outputs of a and b bytes hold results at their limits, and the counts are accepted
pub record Writable (a b D T n : ℕ) : Type 0 where
  pub part_holds : 4 * part_words ≤ a
  pub path_holds : 4 * path_words ≤ b
  pub counts : counts_check D T n ≡ 0

-- what each output answers: the same checks, whose number is k, and its own file
abbrev pub part_outcome : ℕ → ℕ → ℕ → Outcome
part_outcome k D T = outcome k part_words (dear_part D T)

abbrev pub path_outcome : ℕ → ℕ → Outcome
path_outcome k n = outcome k path_words (dear_path n)

-- label k's range, and from the second on its or
abbrev pub range_of : ℕ → List ℕ
range_of k = full_range ∷ cond (ltb 1 k) (operator_word 2 ∷ []) []
