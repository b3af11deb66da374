-- Where the rows of the nodes are, in an accepted part: each node has one, and no other has it. Assumes nothing.
use mathlib.Core.Path.{◌≡◌, refl, sym, ap, subst, ◌∙◌}
use mathlib.Core.Logic.{◌⊎◌, inl, inr, ⊎_elim}
use mathlib.Core.Bool.{Bool, true, cond, ◌&&◌, and-false}
use mathlib.Core.List.{List, [], ◌∷◌}
use Prim.Native.Nat.{ℕ, zero, suc, ◌+◌, ◌*◌, ◌≤◌, ◌<◌}
use native.Mathlib.Omega.{arith}
use borrow.Author.Tests.{eq-eqb, ne_eqb, lt-ltb, le-ltb}
use lib.Dec.{eqb, ltb}
use lib.ListN.{length}
use Rattle.sets.specs.Sets.{Mem, here, there, Ascending}
use Rattle.sets.specs.Table.{half}
use Rattle.sets.proofs.Sets.{mem_dec}
use Rattle.sets.proofs.Tests.{either}
use Rattle.sets.proofs.Cases.{clash, lt_or_le, eq_or_ne}
use Rattle.files.specs.Field.{node_of}
use Rattle.files.specs.Part.{is_node, nodes, part_check}
use Rattle.slots.specs.Slots.{node_at, number}
use Rattle.slots.proofs.Places.{node_in, in_node, header_node, rising}
use Rattle.walk_rows.specs.Distances.{place, distance, Hit}

place_at : (ws : List ℕ) (b i : ℕ) → Ascending (nodes ws) → node_at ws i ≡ true → place ws b (number ws i) ≡ b + i
unfolding node_at number
place_at [] b i a n = absurd (clash n refl)
place_at (w ∷ ws) b zero a n = rw (n, eq-eqb (node_of w) (node_of w) refl) (omega arith)
place_at (w ∷ ws) b (suc i) a n = elim (either (is_node w)) [
  | inl e ↦
      let h = rw e at a in
      let l = h.0 (number ws i) (node_in ws i n) in
      rw (e, ne_eqb (node_of w) (number ws i) (λ q. omega arith)) (place_at ws (suc b) i h.1 n ∙ sym (next b i))
  | inr e ↦ rw e (place_at ws (suc b) i (rw e at a) n ∙ sym (next b i))
]
  where
    next : (b i : ℕ) → b + suc i ≡ suc b + i
    next b i = omega arith

place_none : (ws : List ℕ) (b x : ℕ) → (Mem x (nodes ws) → ⊥) → place ws b x ≡ 0
place_none [] b x n = refl
place_none (w ∷ ws) b x n = elim (either (is_node w)) [
  | inl e ↦
      let m : Mem x (node_of w ∷ nodes ws) → ⊥ = rw e at n in
      rw (e, ne_eqb (node_of w) x (λ q. m (here (sym q)))) (place_none ws (suc b) x (λ k. m (there k)))
  | inr e ↦ rw e (place_none ws (suc b) x (rw e at n))
]

pub place_below : (ws : List ℕ) (b x n : ℕ) → b + length ws ≤ n → 0 < n → place ws b x < n
place_below [] b x n l p = p
place_below (w ∷ ws) b x n l p = elim (either (is_node w && eqb (node_of w) x)) [ inl e ↦ rw e (omega arith) | inr e ↦ rw e (place_below ws (suc b) x n (omega arith) p) ]

module _ (ws : List ℕ) (c : part_check ws ≡ 0) where
  pub place_node : (i : ℕ) → node_at ws i ≡ true → place ws 0 (number ws i) ≡ i
  place_node i n = let z : 0 + i ≡ i = omega arith in place_at ws 0 i (rising ws c) n ∙ z

  pub node_positive : (i : ℕ) → node_at ws i ≡ true → 0 < i
  node_positive zero n = absurd (clash n (header_node ws c))
  node_positive (suc i) n = omega arith

  -- a node is placed at its word
  pub placed : (x : ℕ) → Mem x (nodes ws) → (node_at ws (place ws 0 x) ≡ true) × (number ws (place ws 0 x) ≡ x)
  placed x m =
      let (i, n, e) = in_node ws x m in
      let z : place ws 0 x ≡ i = subst (λ x. place ws 0 x ≡ i) e (place_node i n) in
      (subst (λ i. node_at ws i ≡ true) (sym z) n, subst (λ i. number ws i ≡ x) (sym z) e)

  -- what is placed at a node word is its node, and what is placed anywhere is a node
  pub place_back : (b z : ℕ) → 0 < b → place ws 0 z ≡ b → Mem z (nodes ws)
  place_back b z p e = elim (mem_dec z (nodes ws)) [ yes m ↦ m | no n ↦ absurd (let q = place_none ws 0 z n in omega arith) ]

  pub place_is : (b z : ℕ) → 0 < b → place ws 0 z ≡ b → z ≡ number ws b
  place_is b z p e = sym (placed z (place_back b z p e)).1 ∙ ap (number ws) e

  -- distances
  pub distance_row : (w : List ℕ) (b q : ℕ) → node_at ws b ≡ true → q < 16 → distance ws w (number ws b) q ≡ half w 0 (16 * b + q)
  unfolding distance
  distance_row w b q n l = rw (place_node b n, lt-ltb q 16 l, lt-ltb 0 b (node_positive b n))

  pub distance_high : (w : List ℕ) (x q : ℕ) → 16 ≤ q → distance ws w x q ≡ 0
  unfolding distance
  distance_high w x q l = rw (le-ltb q 16 l)

  -- a number stands in a row
  pub distance_some : (w : List ℕ) (x q d : ℕ) → distance ws w x q ≡ suc d → (q < 16) × Mem x (nodes ws)
  unfolding distance
  distance_some w x q d e = ⊎_elim
      (λ (l : q < 16). ⊎_elim
      (λ (k : 0 < place ws 0 x). (l, place_back (place ws 0 x) x k refl))
      (λ (k : place ws 0 x ≤ 0). absurd (let z = rw (le-ltb 0 (place ws 0 x) k, and-false) at e in omega arith))
      (lt_or_le 0 (place ws 0 x)))
      (λ (l : 16 ≤ q). absurd (let z = rw (le-ltb q 16 l) at e in omega arith))
      (lt_or_le q 16)

  -- a row that is hit leaves the others
  pub distance_rest : {hits : ℕ → Bool} {b v : ℕ} {w w' : List ℕ} → Hit hits b 16 v w w' → node_at ws b ≡ true → (z q : ℕ) → (z ≡ number ws b → ⊥)
      → distance ws w' z q ≡ distance ws w z q
  unfolding distance
  distance_rest {b = b} {w = w} {w' = w'} h n z q d = ⊎_elim
      (λ (l : q < 16). ap (λ v. cond (ltb q 16 && ltb 0 (place ws 0 z)) v 0) (h.rest (16 * place ws 0 z + q) (out l (eq_or_ne (place ws 0 z) b))))
      (λ (l : 16 ≤ q). rw (le-ltb q 16 l))
      (lt_or_le q 16)
    where
      out : q < 16 → (place ws 0 z ≡ b) ⊎ (place ws 0 z ≡ b → ⊥) → (16 * place ws 0 z + q < 16 * b) ⊎ (16 * b + 16 ≤ 16 * place ws 0 z + q)
      out l (inl e) = absurd (d (place_is b z (node_positive b n) e))
      out l (inr e) = ⊎_elim (λ (k : place ws 0 z < b). inl (omega arith)) (λ (k : b ≤ place ws 0 z). inr (omega (arith, e))) (lt_or_le (place ws 0 z) b)
