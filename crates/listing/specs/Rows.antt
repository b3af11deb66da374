-- Inner. A row of a first reply, read off the tables of a search by position.
use Rattle.std.specs.Prelude.{List, [], ◌++◌, ℕ, zero, suc, ◌≤◌, ◌<◌, length}
use Rattle.files.specs.Limits.{part_words, work_bytes}
use Rattle.output.specs.Pairs.{pairs_with}
use Rattle.slots.specs.Slots.{number, reached_of, place_of}

-- t outside targets have a place in the working buffer, each the position of a word
pub record Places (w : List ℕ) (t : ℕ) : Type 0 where
  pub few : t ≤ part_words
  pub below : (k : ℕ) → k < t → place_of w k < part_words
  pub long : work_bytes ≤ length w

-- the pairs reached at the outside target in place k
abbrev pub pairs_at : List ℕ → List ℕ → ℕ → List ℕ
pairs_at ws w k = pairs_with (number ws (place_of w k)) (reached_of w (place_of w k))

-- the pairs reached at the outside targets in the first t places
abbrev pub pairs_up_to : List ℕ → List ℕ → ℕ → List ℕ
pairs_up_to ws w zero = []
pairs_up_to ws w (suc t) = pairs_up_to ws w t ++ pairs_at ws w t
