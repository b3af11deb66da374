-- Inner. Where the desks stand, and how it moves on.
use Rattle.std.specs.Prelude.{ℕ, ◌+◌, ◌-◌, ◌*◌, ◌≡◌, List, [], ◌∷◌, ◌++◌, length, take}
use Rattle.files.specs.Outcome.{zeros}
use Rattle.path_bundles.specs.Packed.{packed}
use Rattle.desks.specs.declared.stand.Stand.{Stand}

-- of eight numbers the lowest, 0, goes out, and n comes in at the top
pub record Enters (numbers n r : ℕ) : Type 0 where
  pub entered : (ns : List ℕ) → length ns ≡ 7 → numbers ≡ packed (0 ∷ ns) → r ≡ packed (ns ++ n ∷ [])

-- the next desk is settled
pub record Settles (s : Stand) (number words later : ℕ) (r : Stand) : Type 0 where
  pub enters : Enters s.numbers number r.numbers
  pub next_is : r.next ≡ s.next + 1
  pub words_are : r.words ≡ words
  pub later_are : r.later ≡ later

-- of an output the first `at` words are left
pub record Erased (at : ℕ) (out out' : List ℕ) : Type 0 where
  pub is : out' ≡ take (4 * at) out ++ zeros (length out - 4 * at)
