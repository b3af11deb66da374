-- Inner. Where the desks stand between two rounds, and what both rounds leave.
use Rattle.std.specs.Prelude.{ℕ, ◌+◌, ◌-◌, ◌*◌, ◌≤◌, ◌≡◌, List, ◌++◌, length, drop}
use Rattle.files.specs.Limits.{reply_words}
use Rattle.files.specs.Outcome.{zeros, padded}
use Rattle.path_bundles.specs.Packed.{packed}
use Rattle.visits.specs.Answered.{Own}
use Rattle.desks.specs.declared.stand.Stand.{Stand}
use Rattle.desks.specs.Owns.{short_sum, chosen, replies_of, numbers_in}

-- the desks before the next are settled, and the rest of the choice is among those from there on
pub record Stood (n : ℕ) (xs : List Own) (s : Stand) (out : List ℕ) : Type 0 where
  pub settled : List Own
  pub turn : (length settled ≡ s.next) × (s.next ≤ 8)
  pub rest : chosen (short_sum xs) xs ≡ settled ++ chosen (s.words + s.later) (drop s.next xs)
  pub numbers_are : s.numbers ≡ packed (zeros (8 - s.next) ++ numbers_in settled)
  pub words_are : s.words ≡ length (replies_of settled)
  pub later_are : s.later ≡ short_sum (drop s.next xs)
  pub output : out ≡ padded n (replies_of settled)
  pub room : (s.words + s.later ≤ reply_words) × (4 * s.words ≤ n)

-- the numbers of all desks, and the output
pub record Shares (n : ℕ) (xs : List Own) (r : ℕ) (out : List ℕ) : Type 0 where
  pub numbers_are : r ≡ packed (numbers_in (chosen (short_sum xs) xs))
  pub output : out ≡ padded n (replies_of (chosen (short_sum xs) xs))
