-- Believed. What a visit answers to each of its paths. Document 02, request 6; request 11 has the same for more paths.
use Rattle.std.specs.Prelude.{ℕ, zero, suc, List, [], ◌∷◌, map}
use Rattle.files.specs.Outcome.{Outcome, refused, accepted}

-- What is answered at each output, of n bytes: to its path what the call for this path alone answers; past the last path 0 and no words.
abbrev pub answers : (ℕ → List ℕ → Outcome) → List ℕ → List (List ℕ) → List Outcome
answers reply [] paths = []
answers reply (n ∷ ns) [] = accepted [] ∷ answers reply ns []
answers reply (n ∷ ns) (path ∷ paths) = reply n path ∷ answers reply ns paths

-- by the number of the checks of the whole, whose refusal stands at every output
abbrev pub visit : ℕ → (ℕ → List ℕ → Outcome) → List ℕ → List (List ℕ) → List Outcome
visit zero reply ns paths = answers reply ns paths
visit (suc k) reply ns paths = map (λ n. refused (suc k)) ns
