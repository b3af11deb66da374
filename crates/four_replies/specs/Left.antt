-- Inner. What the checks of a visit give, and what its paths leave, before its working buffer is cleared.
use Rattle.std.specs.Prelude.{◌≡◌, List, map, ℕ}
use Rattle.path_bundles.specs.Packed.{packed, number_of, outputs_of}
use Rattle.visits.specs.Whole.{shortest}
use Rattle.visits.specs.Answered.{VisitChecked}
use Rattle.four_replies.specs.Four.{visit_paths, four_replies_grouped}

-- whole is the number of the checks, where outputs have ns and the working buffer m bytes
pub record VisitReady (ns : List ℕ) (m : ℕ) (part groups paths : List ℕ) (whole : ℕ) : Type 0 where
  pub checked : VisitChecked visit_paths (shortest ns) m part groups paths whole

-- numbers r and outputs `outs`
pub record VisitLeft (ns : List ℕ) (m : ℕ) (part groups paths : List ℕ) (r : ℕ) (outs : List (List ℕ)) : Type 0 where
  pub numbers : r ≡ packed (map number_of (four_replies_grouped ns m part groups paths))
  pub outputs : outs ≡ outputs_of (four_replies_grouped ns m part groups paths) ns
