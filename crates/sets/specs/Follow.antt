-- Inner. What may follow a set of states.
use Rattle.std.specs.Prelude.{◌≡◌, ◌↔◌, true, List, ℕ, get_or}
use Rattle.sets.specs.States.{has_state}

-- state p may follow some state of s
abbrev pub MayFollow : List ℕ → ℕ → ℕ → Type 0
MayFollow follow s p = (q : ℕ) × (has_state s q ≡ true) × (has_state (get_or follow q 0) p ≡ true)

-- r has the states that may follow some state of s
abbrev pub Follows : List ℕ → ℕ → ℕ → Type 0
Follows follow s r = (p : ℕ) → (has_state r p ≡ true) ↔ MayFollow follow s p
