-- The node word of each word of an accepted part, by position: their numbers do not fall. Assumes nothing.
use mathlib.Core.Path.{◌≡◌, sym, ap, subst, ◌∙◌}
use mathlib.Core.Logic.{inl, inr, ⊎_elim}
use mathlib.Core.Bool.{Bool, true, false, cond}
use mathlib.Core.List.{List, [], ◌∷◌}
use Prim.Native.Nat.{ℕ, ◌+◌, ◌-◌, ◌*◌, ◌≤◌, ◌<◌}
use native.Mathlib.Nat.{le_refl}
use native.Mathlib.Omega.{arith}
use borrow.Author.Tests.{ne_eqb}
use lib.ListN.{length, get_or}
use Rattle.std.specs.Prelude.{Option, Some, None}
use Rattle.sets.specs.Table.{half, put_half}
use Rattle.sets.proofs.Cases.{eq_or_ne, lt_or_le, clash}
use Rattle.sets.proofs.Tests.{either}
use Rattle.sets.proofs.Tables.{half_same, half_apart, half_other}
use Rattle.files.specs.Field.{kind_of}
use Rattle.files.specs.Part.{is_node, start, word_check, part_check}
use Rattle.files.proofs.Checks.{then_iff}
use Rattle.files.proofs.Parts.{part_read, edge_iff}
use Rattle.files.specs.Limits.{part_words}
use Rattle.slots.specs.Slots.{owners_base, node_at, edge_at, number}
use Rattle.slots.specs.Layout.{Owner, Owned, OwnersOnly, Rises, key_of, Sorted, Located, PositionOf}
use Rattle.slots.proofs.Places.{header_node, rising, nodes_rise}
use Rattle.slots.proofs.Places.{node_below}

-- the header is no edge word, and the first word behind it a node word
pub header_edge : (ws : List ℕ) → part_check ws ≡ 0 → edge_at ws 0 ≡ false
unfolding edge_at
header_edge ws c = ne_eqb (kind_of (get_or ws 0 0)) 3 (λ q. omega (arith, (part_read ws c).kind))

pub first_node : (ws : List ℕ) → part_check ws ≡ 0 → 1 < length ws → node_at ws 1 ≡ true
unfolding node_at
first_node [] c l = absurd (omega arith)
first_node (h ∷ []) c l = absurd (omega arith)
first_node (h ∷ w ∷ ws) c l = elim (either (is_node w)) [
  | inl n ↦ n
  | inr n ↦ absurd (let e = (edge_iff start w n).0 ((then_iff (word_check start w) _).0 (part_read (h ∷ w ∷ ws) c).words).0 in omega (arith, e.behind))
]

-- ---- they are written, a word after the other

-- past a word that is no node word
owner_longer : (ws : List ℕ) (o i : ℕ) → node_at ws i ≡ false → Owner ws o (i - 1) → Owner ws o i
owner_longer ws o i n w =
    record {
      node = w.node;
      before = omega (arith, w.before);
      last = λ k a b. ⊎_elim (λ (z : k ≡ i). rw z n) (λ z. w.last k a (omega arith)) (eq_or_ne k i);
    }

pub record Owning (ws w : List ℕ) (last i : ℕ) : Type 0 where
  pub pos : 0 < i
  pub done : (j : ℕ) → 0 < j → j < i → Owner ws (half w owners_base j) j
  pub before : 1 < i → Owner ws last (i - 1)

module _ (ws w : List ℕ) (last i o : ℕ) (c : part_check ws ≡ 0) (l : i < length ws) (s : Owning ws w last i) (is : o ≡ cond (node_at ws i) i last) where
  on_node : node_at ws i ≡ true → Owner ws o i
  on_node n =
      subst (λ y. Owner ws y i) (sym (is ∙ ap (λ (b : Bool). cond b i last) n)) (record { node = n; before = le_refl i; last = λ k a b. absurd (omega arith) })

  past_first : node_at ws i ≡ false → 1 < i
  past_first n = ⊎_elim (λ (z : i ≡ 1). absurd (clash (first_node ws c (omega arith)) (subst (λ y. node_at ws y ≡ false) z n))) (λ z. omega (arith, s.pos)) (eq_or_ne i 1)

  on_other : node_at ws i ≡ false → Owner ws o i
  on_other n = subst (λ y. Owner ws y i) (sym (is ∙ ap (λ (b : Bool). cond b i last) n)) (owner_longer ws last i n (s.before (past_first n)))

  pub own_next : Owner ws o i
  own_next = ⊎_elim on_node on_other (either (node_at ws i))

  pub own_more : (w' : List ℕ) → length ws ≤ part_words → 2 * part_words ≤ length w → w' ≡ put_half w owners_base i o → Owning ws w' o (i + 1)
  own_more w' few long q =
      let z : i + 1 - 1 ≡ i = omega arith in
      rw q
      (record {
        pos = omega arith;
        done = λ j p b.
            ⊎_elim (λ (e : j ≡ i). rw (e, half_same w owners_base i o (omega arith)) own_next) (λ d. rw (half_other w owners_base i o j d) (s.done j p (omega arith))) (eq_or_ne j i);
        before = λ b. rw z own_next;
      })

pub only_more : {ws w₀ w : List ℕ} {i : ℕ} (o : ℕ) (w' : List ℕ) → OwnersOnly ws w₀ w → i < length ws → w' ≡ put_half w owners_base i o → OwnersOnly ws w₀ w'
only_more {ws} {w₀} {w} {i} o w' f l q = rw q (record { rest = λ b j k. half_apart w owners_base i o b j (inr (omega arith)) ∙ f.rest b j k })

-- ---- what they serve for

module _ (ws w : List ℕ) (c : part_check ws ≡ 0) (owned : Owned ws w) where
  owners_rise : Rises (key_of ws w owners_base) 1 (length ws)
  owners_rise k l a b d =
      let o = owned k (omega arith) (omega arith) in
      let p = owned l (omega arith) d in
      ⊎_elim (λ h. let r = nodes_rise ws (half w owners_base k) (half w owners_base l) (rising ws c) o.node p.node h in omega arith)
      (λ h. ⊎_elim (λ (e : half w owners_base l ≡ half w owners_base k). rw e (le_refl (number ws (half w owners_base k))))
      (λ e. absurd (clash o.node (p.last (half w owners_base k) (omega arith) (omega (arith, o.before))))) (eq_or_ne (half w owners_base l) (half w owners_base k)))
      (lt_or_le (half w owners_base k) (half w owners_base l))

  pub owners_sorted : 1 ≤ length ws → 2 * length ws ≤ length w → Sorted ws w owners_base 1 (length ws)
  owners_sorted a b =
      record {
        order = a;
        room = omega arith;
        rises = owners_rise;
        some = λ k f l.
            ⊎_elim (λ (e : half w owners_base k ≡ 0). absurd (clash (rw e at (owned k (omega arith) l).node) (header_node ws c))) (λ e. omega arith) (eq_or_ne (half w owners_base k) 0);
      }

  -- the target is a node
  found_node : (t i : ℕ) → Located ws w owners_base 1 (length ws) t (Some i) → (node_at ws i ≡ true) × (number ws i ≡ t)
  found_node t i f =
      let (k, a, b, e, q) = f in
      (rw e at (owned k (omega arith) b).node, q)

  -- the target is no node
  found_none : (t : ℕ) → Located ws w owners_base 1 (length ws) t None → (j : ℕ) → node_at ws j ≡ true → number ws j ≡ t → ⊥
  found_none t f j n q =
      let l = node_below ws j n in
      let p : 0 < j = ⊎_elim (λ (e : j ≡ 0). absurd (clash (rw e at n) (header_node ws c))) (λ e. omega arith) (eq_or_ne j 0) in
      let o = owned j p l in
      let e : half w owners_base j ≡ j = ⊎_elim (λ (y : half w owners_base j ≡ j). y) (λ y. absurd (clash n (o.last j (omega (arith, o.before)) (le_refl j)))) (eq_or_ne (half w owners_base j) j) in
      f j p l (rw e q)

  pub position_found : (t : ℕ) (r : Option ℕ) → Located ws w owners_base 1 (length ws) t r → PositionOf ws t r
  position_found t (Some i) f = found_node t i f
  position_found t None f = found_none t f
