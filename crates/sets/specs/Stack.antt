-- Inner. A stack of the numbers that wait, each on it once. It speaks of a test and a function, and of no bytes.
use Rattle.std.specs.Prelude.{◌≡◌, Bool, true, ℕ, ◌<◌}
use Rattle.sets.specs.Tally.{tally}

-- the `top` places of the stack hold the waiting numbers below n, each once
pub record Stacked (n : ℕ) (waits : ℕ → Bool) (place : ℕ → ℕ) (top : ℕ) : Type 0 where
  pub count : top ≡ tally waits n
  pub held : (j : ℕ) → j < n → waits j ≡ true → (k : ℕ) × (k < top) × (place k ≡ j)
  pub below : (k : ℕ) → k < top → place k < n
  pub live : (k : ℕ) → k < top → waits (place k) ≡ true
  pub apart : (k l : ℕ) → k < top → l < top → place k ≡ place l → k ≡ l
