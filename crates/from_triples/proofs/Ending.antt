-- The ends of triples as a set of nodes: what the code adds. Assumes nothing.
use mathlib.Core.Path.{◌≡◌, ◌∙◌}
use mathlib.Core.Bool.{◌||◌, or_assoc}
use mathlib.Core.List.{List}
use Prim.Native.Nat.{ℕ, suc, ◌+◌, ◌-◌, ◌<◌}
use native.Mathlib.Omega.{arith}
use lib.ListN.{length}
use Rattle.sets.specs.Sets.{any, span}
use Rattle.sets.specs.NodeSet.{has_node}
use Rattle.from_triples.specs.Ends.{nodes_base, end_at, EndsAdded}

-- for the proof of `add_all`: those from i on are left
pub record Gathering (ws : List ℕ) (n : ℕ) (w₀ w : List ℕ) (i : ℕ) : Type 0 where
  pub has : (x : ℕ) → (has_node w nodes_base x || any (end_at ws x) (span i (n - i))) ≡ (has_node w₀ nodes_base x || any (end_at ws x) (span 0 n))
  pub long : length w ≡ length w₀

pub gathering_more : {ws : List ℕ} {n i : ℕ} {w₀ w w' : List ℕ} → Gathering ws n w₀ w i → i < n → EndsAdded ws i w w' → Gathering ws n w₀ w' (i + 1)
gathering_more {ws} {n} {i} {w₀} {w} {w'} f l e =
    let d : n - i ≡ suc (n - (i + 1)) = omega arith in
    let q : suc i ≡ i + 1 = omega arith in
    record {
      has = λ x. rw (e.has x) (or_assoc (has_node w nodes_base x) (end_at ws x i) (any (end_at ws x) (span (i + 1) (n - (i + 1)))) ∙ (rw (d, q) at (f.has x)));
      long = e.long ∙ f.long;
    }
