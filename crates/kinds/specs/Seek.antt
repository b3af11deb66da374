-- Inner. The first word that passes a test, by its place in a list.
use Rattle.std.specs.Prelude.{◌≡◌, Bool, true, false, List, ℕ, ◌≤◌, ◌<◌, length, get_or}

-- no word before place k passes
pub record NoneBefore (p : ℕ → Bool) (ws : List ℕ) (k : ℕ) : Type 0 where
  pub within : k ≤ length ws
  pub before : (i : ℕ) → i < k → p (get_or ws i 0) ≡ false

-- k is the place of the first word that passes, or the number of words
pub record FirstThat (p : ℕ → Bool) (ws : List ℕ) (k : ℕ) : Type 0 where
  pub none : NoneBefore p ws k
  pub found : k < length ws → p (get_or ws k 0) ≡ true
