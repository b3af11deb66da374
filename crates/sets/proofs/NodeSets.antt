-- The laws of a set of nodes in bytes: what one more node changes, and that zeros are the empty set. Assumes nothing.
use mathlib.Core.Path.{◌≡◌, ap}
use mathlib.Core.Logic.{inl, inr, ⊎_elim}
use mathlib.Core.Bool.{false, ◌||◌, or-false}
use mathlib.Core.List.{List}
use Prim.Native.Nat.{ℕ, ◌+◌, ◌/◌, ◌%◌, ◌≤◌, ◌<◌}
use native.Mathlib.Omega.{arith}
use borrow.Author.Tests.{ne_eqb}
use lib.Dec.{eqb}
use lib.ListN.{length, get_or, replicate}
use Rattle.sets.specs.States.{has_state}
use Rattle.sets.specs.Table.{half, put_half}
use Rattle.sets.specs.NodeSet.{has_node, Added, node_set_bytes}
use Rattle.sets.proofs.Tests.{same_test, eq_iff}
use Rattle.sets.proofs.Cases.{eq_or_ne}
use Rattle.sets.proofs.StateSets.{has_empty}
use Rattle.sets.proofs.Tables.{length_put, byte_put, half_same, half_other, half_zero, zero_at}

-- a node is its cell and its bit
same_bit : (y x : ℕ) → y / 16 ≡ x / 16 → eqb (y % 16) (x % 16) ≡ eqb y x
same_bit y x e = same_test
    (λ t. (eq_iff y x).1 (omega (arith, (eq_iff (y % 16) (x % 16)).0 t)))
    (λ t. (eq_iff (y % 16) (x % 16)).1 (ap (λ (z : ℕ). z % 16) ((eq_iff y x).0 t)))

-- u, the cell of x, is put back as v, with the bit of x
pub node_added : {w w' : List ℕ} {base x u : ℕ} (v : ℕ) → (base + node_set_bytes ≤ length w) × (x < 65536) → u ≡ half w base (x / 16)
    → ((p : ℕ) → has_state v p ≡ (has_state u p || eqb p (x % 16))) → w' ≡ put_half w base (x / 16) v → Added base x w w'
unfolding has_node
node_added {w = w} {base = base} {x = x} v (l, h) g e r = rw r (record {
  has = λ y. ⊎_elim (inside y) (outside y) (eq_or_ne (y / 16) (x / 16));
  rest = λ k o. byte_put w base (x / 16) v k (⊎_elim (λ b. inl (omega arith)) (λ b. inr (omega arith)) o);
  same = length_put w base (x / 16) v;
})
  where
    inside : (y : ℕ) → y / 16 ≡ x / 16
        → has_state (half (put_half w base (x / 16) v) base (y / 16)) (y % 16) ≡ (has_state (half w base (y / 16)) (y % 16) || eqb y x)
    inside y q = rw (← same_bit y x q, q, half_same w base (x / 16) v (omega arith)) (rw g at (e (y % 16)))

    outside : (y : ℕ) → (y / 16 ≡ x / 16 → ⊥)
        → has_state (half (put_half w base (x / 16) v) base (y / 16)) (y % 16) ≡ (has_state (half w base (y / 16)) (y % 16) || eqb y x)
    outside y n = rw (half_other w base (x / 16) v (y / 16) n, ne_eqb y x (λ q. n (ap (λ (z : ℕ). z / 16) q)), or-false)

-- zeros are the empty set
pub node_none : (w : List ℕ) (base x : ℕ) → ((k : ℕ) → get_or w k 0 ≡ 0) → has_node w base x ≡ false
unfolding has_node
node_none w base x z = rw (half_zero w base (x / 16) (z _) (z _)) (has_empty (x % 16))

-- a cleared buffer is the empty set too
pub nodes_none : (n : ℕ) {w : List ℕ} (base x : ℕ) → w ≡ replicate n 0 → has_node w base x ≡ false
nodes_none n base x e = rw e (node_none (replicate n 0) base x (zero_at n))
