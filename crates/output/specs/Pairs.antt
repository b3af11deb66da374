-- Inner. Pairs whose words are written one after another.
use Rattle.std.specs.Prelude.{List, map, ℕ}
use Rattle.sets.specs.States.{states_of}
use Rattle.files.specs.Field.{pair}

-- the pairs of a number with each state of a set
abbrev pub pairs_with : ℕ → ℕ → List ℕ
pairs_with x s = map (pair x) (states_of s)
