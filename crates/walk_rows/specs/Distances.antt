-- Inner. The distances in the working buffer: sixteen numbers for each node word's position. One more than the links by which the node arrives in that
-- state, or 0.
use Rattle.std.specs.Prelude.{◌≡◌, ◌⊎◌, Bool, true, cond, ◌&&◌, List, [], ◌∷◌, ℕ, suc, ◌+◌, ◌*◌, ◌≤◌, ◌<◌, eqb, ltb, length}
use Rattle.sets.specs.Sets.{any}
use Rattle.sets.specs.States.{members}
use Rattle.sets.specs.Table.{half}
use Rattle.files.specs.Field.{node_of}
use Rattle.files.specs.Part.{is_node}

-- the position of x's node word, the first of the words standing at i; 0 where there is none
abbrev pub place : List ℕ → ℕ → ℕ → ℕ
place [] i x = 0
place (w ∷ ws) i x = cond (is_node w && eqb (node_of w) x) i (place ws (suc i) x)

-- the number of x in state q; 0 where x is no node
unfoldable pub distance : List ℕ → List ℕ → ℕ → ℕ → ℕ
distance ws work x q = cond (ltb q 16 && ltb 0 (place ws 0 x)) (half work 0 (16 * place ws 0 x + q)) 0

-- some state of the row i has the number v
unfoldable pub numbered : List ℕ → ℕ → ℕ → Bool
numbered work i v = any (λ q. eqb (half work 0 (16 * i + q)) v) (members (λ q. true) 0 16)

-- w' is w with v as the number of each state p below n of the row i that is hit and has none
pub record Hit (hits : ℕ → Bool) (i n v : ℕ) (w w' : List ℕ) : Type 0 where
  pub row : (p : ℕ) → p < n → half w' 0 (16 * i + p) ≡ cond (hits p && eqb (half w 0 (16 * i + p)) 0) v (half w 0 (16 * i + p))
  pub rest : (m : ℕ) → (m < 16 * i) ⊎ (16 * i + n ≤ m) → half w' 0 m ≡ half w 0 m
  pub same : length w' ≡ length w
