-- The edge words into a node, from the last of them on: each is handled in its turn, and at the header all are. Assumes nothing.
use mathlib.Core.Path.{◌≡◌, sym, ap, subst, ◌∙◌}
use mathlib.Core.Logic.{⊎_elim}
use mathlib.Core.Bool.{Bool, true, ◌&&◌, ◌||◌}
use mathlib.Core.List.{List}
use Prim.Native.Nat.{ℕ, zero, suc, ◌+◌, ◌-◌, ◌*◌, ◌<◌}
use native.Mathlib.Omega.{arith}
use borrow.Author.Tests.{eq-eqb, ne_eqb, eqb-true, ltb-true, lt-ltb}
use lib.Dec.{eqb, ltb}
use lib.ListN.{length}
use Rattle.sets.specs.States.{has_state}
use Rattle.sets.specs.Table.{half}
use Rattle.sets.proofs.Cases.{clash, and_left, and_right, and_intro, or_elim, or_left, or_right, eq_or_ne, ne_cases}
use Rattle.files.proofs.Parts.{whole_part}
use Rattle.paths.specs.declared.automaton.Automaton.{Automaton}
use Rattle.slots.specs.Slots.{node_at, edge_at, number}
use Rattle.slots.proofs.Places.{nodes_apart, edge_below}
use Rattle.slots.proofs.Owning.{header_edge}
use Rattle.walk_links.specs.Tables.{heads_base, target_at, last_into}
use Rattle.walk_links.proofs.Chains.{last_edge, last_between}
use Rattle.walk_distances.specs.Rounds.{Turns, Waiting, IsList, Ready, Written}
use Rattle.walk_distances.proofs.Handling.{turns_weaker}
use Rattle.walk_distances.proofs.Noting.{written_refl, written_trans, ready_written}

-- an edge word into the node at i
abbrev pub into : List ℕ → ℕ → ℕ → Bool
into ws i z = edge_at ws z && eqb (number ws z) (number ws i)

-- those behind x are handled, and x is the next of them
pub record Visiting (ws : List ℕ) (a : Automaton) (to v i : ℕ) (w₀ w o₀ o : List ℕ) (top x : ℕ) : Type 0 where
  pub turns : (done : ℕ → Bool) → Turns ws a v w₀ w done (λ z. done z || (ltb x z && into ws i z))
  pub written : Written ws to v w₀ w o₀ o
  pub waiting : Waiting ws w o to v top
  pub next : (x ≡ 0 → ⊥) → (edge_at ws x ≡ true) × (number ws x ≡ number ws i)

into_parts : (ws : List ℕ) (i x z : ℕ) → (ltb x z && into ws i z) ≡ true → (x < z) × (edge_at ws z ≡ true) × (number ws z ≡ number ws i)
into_parts ws i x z t =
    let e = and_right (ltb x z) (into ws i z) t in (
      ltb-true x z (and_left (ltb x z) (into ws i z) t),
      and_left (edge_at ws z) (eqb (number ws z) (number ws i)) e,
      eqb-true (number ws z) (number ws i) (and_right (edge_at ws z) (eqb (number ws z) (number ws i)) e),
    )

last_next : (ws : List ℕ) (i n x : ℕ) → x ≡ last_into ws (number ws i) n → (x ≡ 0 → ⊥) → (edge_at ws x ≡ true) × (number ws x ≡ number ws i)
last_next ws i n x e h =
    let r = last_edge ws (number ws i) n (λ z. h (e ∙ z)) in
    subst (λ x. (edge_at ws x ≡ true) × (number ws x ≡ number ws i)) (sym e) (r.0, r.1)

module _ {ws : List ℕ} {a : Automaton} {to i : ℕ} {w₀ o₀ : List ℕ} (ready : Ready ws a w₀ o₀) (list : IsList to) (node : node_at ws i ≡ true) where
  pub visiting_first : {v top x : ℕ} → x ≡ half o₀ heads_base i → Waiting ws w₀ o₀ to v top → Visiting ws a to v i w₀ w₀ o₀ o₀ top x
  visiting_first {v} {top} {x} is s =
      let e : x ≡ last_into ws (number ws i) (length ws) = is ∙ ready.indexed.head i node in
      record {
        turns = λ done. turns_weaker ws a v w₀ w₀ done done (λ z. done z || (ltb x z && into ws i z))
            (λ z d m. ⊎_elim
            (λ k. k)
            (λ k. let (l, b, q) = into_parts ws i x z k in absurd (last_between ws (number ws i) (length ws) z (omega (arith, e)) (edge_below ws z b) b q))
            (or_elim (done z) (ltb x z && into ws i z) m))
            (λ e h y k table is u. u);
        written = written_refl ws to v w₀ o₀;
        waiting = s;
        next = last_next ws i (length ws) x e;
      }

  module _ {v : ℕ} {w o : List ℕ} {top x : ℕ} (g : Visiting ws a to v i w₀ w o₀ o top x) where
    pub visiting_ready : Ready ws a w o
    visiting_ready = ready_written list g.written ready

    -- the states of the node with the number before v are the same as at first
    pub visiting_known : (f : ℕ) → ((p : ℕ) → has_state f p ≡ (ltb p 16 && eqb (half w₀ 0 (16 * i + p)) (v - 1))) → 1 < v → (x ≡ 0 → ⊥)
        → (p : ℕ) → has_state f p ≡ (ltb p 16 && eqb (suc (half w 0 (16 * target_at w x + p))) v)
    visiting_known f known l h p = known p ∙ ap (λ b. ltb p 16 && b) (same ∙ ap (λ j. eqb (suc (half w 0 (16 * j + p))) v) (sym at))
      where
        at : target_at w x ≡ i
        at =
            let (e, q) = g.next h in
            let r = visiting_ready.edged x e in
            nodes_apart ws (whole_part ws ready.measurable.accepted) (target_at w x) i r.node node (r.target ∙ q)

        less : (m n : ℕ) → n ≡ m → eqb m (v - 1) ≡ eqb (suc n) v
        less m n e = ⊎_elim (λ (q : m ≡ v - 1). eq-eqb m (v - 1) q ∙ sym (eq-eqb (suc n) v (omega arith)))
            (λ q. ne_eqb m (v - 1) q ∙ sym (ne_eqb (suc n) v (λ z. q (omega arith)))) (eq_or_ne m (v - 1))

        same : eqb (half w₀ 0 (16 * i + p)) (v - 1) ≡ eqb (suc (half w 0 (16 * i + p))) v
        same = ⊎_elim
            (λ e. less (half w₀ 0 (16 * i + p)) (half w 0 (16 * i + p)) e)
            (λ (z, e). ne_eqb (half w₀ 0 (16 * i + p)) (v - 1) (λ q. omega arith) ∙ sym (ne_eqb (suc (half w 0 (16 * i + p))) v (λ q. omega arith)))
            (g.written.grown (16 * i + p))

    -- the edge word at x is handled
    module _ {w' o' : List ℕ} {x' : ℕ} (h : x ≡ 0 → ⊥) (turns : (done : ℕ → Bool) → Turns ws a v w w' done (λ z. done z || eqb z x))
        (written : Written ws to v w w' o o') (is : x' ≡ half w' 0 (16 * x + 2)) where
      next_is : x' ≡ last_into ws (number ws i) x
      next_is =
          let (e, q) = g.next h in
          let r = (ready_written list (written_trans g.written written) ready).edged x e in
          is ∙ r.next ∙ ap (λ t. last_into ws t x) q

      pub visiting_less : x' < x
      visiting_less = ⊎_elim (λ (z : x' ≡ 0). omega (arith, h)) (λ z. let r = last_edge ws (number ws i) x (λ y. z (next_is ∙ y)) in omega (arith, next_is, r.2)) (eq_or_ne x' 0)

      pub visiting_next : {top' : ℕ} → Waiting ws w' o' to v top' → Visiting ws a to v i w₀ w' o₀ o' top' x'
      visiting_next s = record {
        turns = λ done. turns_weaker ws a v w₀ w' done (λ z. (done z || (ltb x z && into ws i z)) || eqb z x) (λ z. done z || (ltb x' z && into ws i z)) (covers done)
            (λ e d y k table q u. turns (λ z. done z || (ltb x z && into ws i z)) e d y k table q (g.turns done e d y k table q u));
        written = written_trans g.written written;
        waiting = s;
        next = last_next ws i x x' next_is;
      }
        where
          covers : (done : ℕ → Bool) (z : ℕ) → edge_at ws z ≡ true → (done z || (ltb x' z && into ws i z)) ≡ true
              → ((done z || (ltb x z && into ws i z)) || eqb z x) ≡ true
          covers done z d m = ⊎_elim
              (λ k. or_left (done z || (ltb x z && into ws i z)) (eqb z x) (or_left (done z) (ltb x z && into ws i z) k))
              (λ k.
              let (l, b, q) = into_parts ws i x' z k in
              ⊎_elim
              (λ (c : z ≡ x). or_right (done z || (ltb x z && into ws i z)) (eqb z x) (eq-eqb z x c))
              (λ c. ⊎_elim
              (λ (c : z < x). absurd (last_between ws (number ws i) x z (omega (arith, next_is)) c b q))
              (λ (c : x < z). or_left (done z || (ltb x z && into ws i z)) (eqb z x) (or_right (done z) (ltb x z && into ws i z)
              (and_intro (ltb x z) (into ws i z) (lt-ltb x z c) (and_right (ltb x' z) (into ws i z) k))))
              (ne_cases z x c))
              (eq_or_ne z x))
              (or_elim (done z) (ltb x' z && into ws i z) m)

    -- all are handled: the header is none
    pub visiting_last : x ≡ 0 → (done : ℕ → Bool) → Turns ws a v w₀ w done (λ z. done z || (edge_at ws z && eqb (number ws z) (number ws i)))
    visiting_last e done = turns_weaker ws a v w₀ w done (λ z. done z || (ltb x z && into ws i z)) (λ z. done z || into ws i z)
        (λ z d m. ⊎_elim
        (λ k. or_left (done z) (ltb x z && into ws i z) k)
        (λ k. or_right (done z) (ltb x z && into ws i z) (and_intro (ltb x z) (into ws i z) (lt-ltb x z (above z d)) k))
        (or_elim (done z) (into ws i z) m))
        (g.turns done)
      where
        above : (z : ℕ) → edge_at ws z ≡ true → x < z
        above zero d = absurd (clash d (header_edge ws (whole_part ws ready.measurable.accepted)))
        above (suc z) d = omega arith
