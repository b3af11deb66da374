-- What the loops over a door's targets and over the ranges write is what the definitions say. Assumes nothing.
use mathlib.Core.Path.{◌≡◌, refl, ap}
use mathlib.Core.Bool.{true, false}
use mathlib.Core.List.{List, [], ◌∷◌, ◌++◌, flatten}
use Prim.Native.Nat.{ℕ, zero, suc, ◌+◌, ◌-◌, ◌≤◌, ◌<◌}
use native.Mathlib.Omega.{arith}
use borrow.Author.Tests.{lt-ltb}
use lib.ListN.{length}
use Rattle.sets.proofs.Spans.{each, each_one}
use Rattle.files.specs.Field.{node_word, edge_word}
use Rattle.files.specs.Path.{operator_word}
use Rattle.output.specs.Writer.{Writes}
use Rattle.output.proofs.Writing.{behind}
use Rattle.dearest.specs.Dearest.{dear_door, full_range, dear_rest}
use Rattle.dearest.specs.Answer.{range_of}

pub door_is : (D T x : ℕ) → (node_word x true false false ∷ []) ++ each (λ t. edge_word 0 t ∷ []) D (D + T - D) ≡ dear_door D T x
door_is D T x = let h : D + T - D ≡ T = omega arith in rw h (ap (node_word x true false false ∷◌) (each_one (edge_word 0) D T))

rest_is : (j k : ℕ) → 2 ≤ j → each range_of j k ++ operator_word 3 ∷ [] ≡ dear_rest k
unfolding flatten
rest_is j zero h = refl
rest_is j (suc k) h = rw (lt-ltb 1 j h) (ap (λ ws. full_range ∷ operator_word 2 ∷ ws) (rest_is (suc j) k (omega arith)))

pub ranges_are : (n : ℕ) → 0 < n → each range_of 1 (n + 1 - 1) ++ operator_word 3 ∷ [] ≡ full_range ∷ dear_rest (n - 1)
unfolding flatten
ranges_are zero h = absurd (omega arith)
ranges_are (suc n) h =
    let e : suc n + 1 - 1 ≡ suc n = omega arith in
    let f : suc n - 1 ≡ n = omega arith in
    rw (e, f) (ap (full_range ∷◌) (rest_is 2 n (omega arith)))

pub range_joined : {limit n : ℕ} {a b c : List ℕ} {i j r v w : ℕ} (k : ℕ) → 1 < k → v ≡ full_range → w ≡ operator_word 2 → Writes limit n a i b j (v ∷ [])
    → length b ≡ n → Writes limit (length b) b j c r (w ∷ []) → Writes limit n a i c r (range_of k)
range_joined k h e q f s g = rw (lt-ltb 1 k h) (behind (full_range ∷ []) (operator_word 2 ∷ []) (rw e at f) s (rw q at g))
