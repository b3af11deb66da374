-- Inner. Counts within their bounds.
use Rattle.std.specs.Prelude.{ℕ, ◌≤◌}

pub record Within (nodes edges : ℕ) : Type 0 where
  pub some : 1 ≤ nodes
  pub few : nodes ≤ 256
  pub short : edges ≤ 4
