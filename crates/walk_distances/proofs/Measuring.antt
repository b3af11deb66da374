-- Rounds one after another, from the first table on: they end, and tell the root's number. Assumes nothing.
use mathlib.Core.Path.{◌≡◌, refl, sym, ap, subst, ◌∙◌}
use mathlib.Core.Logic.{inl, inr, ⊎_elim}
use mathlib.Core.Bool.{Bool, true, false, cond, not, ◌&&◌}
use mathlib.Core.List.{List, []}
use Prim.Native.Nat.{ℕ, zero, suc, ◌+◌, ◌-◌, ◌*◌, ◌≤◌, ◌<◌}
use native.Mathlib.Nat.{pos_of_ne-zero}
use native.Mathlib.Omega.{arith}
use Rattle.std.specs.Prelude.{Some, None}
use borrow.Author.Tests.{eq-eqb, ne_eqb}
use lib.Dec.{eqb}
use lib.ListN.{length, drop, length-drop}
use Rattle.sets.specs.States.{has_state}
use Rattle.sets.specs.Table.{half, put_half}
use Rattle.sets.specs.Tally.{one}
use Rattle.sets.proofs.Cases.{eq_or_ne, lt_or_le, not_known}
use Rattle.sets.proofs.Tests.{passed}
use Rattle.files.specs.Part.{part_check}
use Rattle.files.proofs.Parts.{whole_part}
use Rattle.files.proofs.Blocks.{nodes_length}
use Rattle.expressions.specs.Expr.{Expr}
use Rattle.expressions.specs.Positions.{accepts}
use Rattle.expressions.specs.Labels.{holds}
use Rattle.paths.specs.declared.automaton.Automaton.{Automaton}
use Rattle.paths.specs.Automaton.{Automates}
use Rattle.slots.specs.Slots.{node_at, number}
use Rattle.slots.proofs.Places.{in_node}
use Rattle.file_walks.specs.Walks.{runs_in}
use Rattle.file_walks.proofs.Leading.{leads_small}
use Rattle.best_walks.proofs.Rounds.{Round, Turned, round_first, round_next, round_small}
use Rattle.walk_rows.specs.Distances.{distance, numbered, Hit}
use Rattle.walk_rows.proofs.Positions.{distance_row, distance_high, distance_some, distance_rest}
use Rattle.walk_rows.proofs.Cells.{numbered_iff}
use Rattle.walk_links.specs.Tables.{first_base, second_base, Blank}
use Rattle.walk_distances.specs.Rounds.{Waiting, IsList, Ready, Starting, Written, Reached}
use Rattle.walk_distances.proofs.Noting.{ready_written, list_room, note_written, note_waiting}
use Rattle.walk_distances.proofs.Passing.{distance_numbered, numbered_distance, list_has, list_node, list_numbered, list_none}

-- ---- rounds

-- the rounds up to v are done: the nodes that have v are on the list
pub record Going (ws : List ℕ) (a : Automaton) (w₀ w o₀ o : List ℕ) (from to count v : ℕ) : Type 0 where
  pub done : ℕ
  pub is : v ≡ suc done
  pub round : (y : ℕ) (e : Expr) → Automates a e → Round holds (runs_in (drop 1 ws)) (drop 1 ws) e y 0 (distance ws w₀)
      → Round holds (runs_in (drop 1 ws)) (drop 1 ws) e y done (distance ws w)
  pub ready : Ready ws a w o
  pub reads : IsList from
  pub writes : IsList to
  pub apart : from ≡ to → ⊥
  pub waiting : Waiting ws w o from v count
  pub few : v ≤ 16386
  pub long : length w ≡ length w₀
  pub long_out : length o ≡ length o₀

pub going_first : {ws : List ℕ} {a : Automaton} {w o : List ℕ} {count : ℕ} → Ready ws a w o → Waiting ws w o first_base 1 count → Going ws a w w o o first_base second_base count 1
going_first r s = record { done = 0; is = refl; round = λ y e h i. i; ready = r; reads = inl refl; writes = inr refl; apart = λ z. omega arith; waiting = s; few = omega arith; long = refl; long_out = refl }

module _ {ws : List ℕ} {a : Automaton} {w₀ w o₀ o : List ℕ} {from to count v : ℕ} (g : Going ws a w₀ w o₀ o from to count v) where
  abbrev part : part_check ws ≡ 0
  part = whole_part ws g.ready.measurable.accepted

  module _ (root : ℕ) {r : ℕ} (n : node_at ws root ≡ true) (q : r ≡ half w 0 (16 * root)) where
    number_is : r ≡ distance ws w (number ws root) 0
    number_is = let zero_more : 16 * root ≡ 16 * root + 0 = omega arith in q ∙ ap (half w 0) zero_more ∙ sym (distance_row ws part w root 0 n (omega arith))

    -- the root has a number
    pub going_some : (r ≡ 0 → ⊥) → (y : ℕ) (e : Expr) → Automates a e → Round holds (runs_in (drop 1 ws)) (drop 1 ws) e y 0 (distance ws w₀)
        → Reached ws e y w (number ws root) (Some (r - 1))
    going_some z y e h i = record {
      last = g.done;
      round = g.round y e h i;
      some = λ d s. let same : r - 1 ≡ d = cc in omega (arith, number_is, z);
      none = λ s. cc;
    }

    -- none is new
    pub going_none : r ≡ 0 → count ≡ 0 → (y : ℕ) (e : Expr) → Automates a e → Round holds (runs_in (drop 1 ws)) (drop 1 ws) e y 0 (distance ws w₀)
        → Reached ws e y w (number ws root) None
    going_none z c y e h i = record {
      last = g.done;
      round = g.round y e h i;
      some = λ d s. cc;
      none = λ s. (
        sym number_is ∙ z,
        λ x p d.
            let (j, m, _, f) = distance_numbered ws part w x p g.done d in
            let (k, l, _) = list_has g.waiting j m (subst (λ v. numbered w j v ≡ true) (sym g.is) f) in
            omega (arith, l, c),
      );
    }

  -- no node has the next number
  pub going_new : ((e : Expr) × Automates a e)
      → ((y : ℕ) × ((e : Expr) → Automates a e → Round holds (runs_in (drop 1 ws)) (drop 1 ws) e y 0 (distance ws w₀)))
      → (j : ℕ) → node_at ws j ≡ true → numbered w j (v + 1) ≡ false
  going_new (e, h) (y, i) j n = not_known (λ t.
      let (q, d) = numbered_distance ws part w j (v + 1) n t in
      omega (arith, g.is, (g.round y e h (i e h)).upto (number ws j) q (suc g.done) (d ∙ omega (arith, g.is))))

  pub going_on : Starting ws a w o from to count (v + 1)
  going_on = record {
    ready = g.ready;
    reads = g.reads;
    writes = g.writes;
    apart = g.apart;
    big = omega (arith, g.is);
    listed = λ u e. let i : v ≡ u = omega arith in subst (λ v. Waiting ws w o from v count) i g.waiting;
  }

  -- some node has v, and no number is more than the pairs of a node and a state are
  module _ (some : (e : Expr) × Automates a e) (start : (y : ℕ) × ((e : Expr) → Automates a e → Round holds (runs_in (drop 1 ws)) (drop 1 ws) e y 0 (distance ws w₀)))
      (more : count ≡ 0 → ⊥) where
    pub going_bound : v + 1 ≤ 16386
    going_bound =
        let (e, h) = some in
        let (y, i) = start in
        let p : 0 < count = pos_of_ne-zero more in
        let (q, d) = numbered_distance ws part w (half o from 0) v (list_node g.waiting 0 p) (list_numbered g.waiting 0 p) in
        let s = round_small holds (runs_in (drop 1 ws)) (drop 1 ws) e y h.small g.done (distance ws w) (g.round y e h (i e h)) (number ws (half o from 0)) q in
        omega (arith, d, s, nodes_length (drop 1 ws), length-drop 1 ws, g.ready.measurable.few)

    pub going_next : {w' o' : List ℕ} {count' : ℕ}
        → ((e : Expr) → Automates a e → (y k : ℕ) → v + 1 ≡ suc (suc k)
        → Turned holds (runs_in (drop 1 ws)) (drop 1 ws) e y k (distance ws w) (distance ws w'))
        → Written ws to (v + 1) w w' o o' → Waiting ws w' o' to (v + 1) count' → Going ws a w₀ w' o₀ o' to from count' (v + 1)
    going_next {w'} turned written s = record {
      done = suc g.done;
      is = next;
      round = λ y e h i.
          round_next holds (runs_in (drop 1 ws)) (drop 1 ws) e y g.done (distance ws w) (distance ws w') (g.round y e h i) (turned e h y g.done next);
      ready = ready_written g.writes written g.ready;
      reads = g.writes;
      writes = g.reads;
      apart = λ z. g.apart (sym z);
      waiting = s;
      few = going_bound;
      long = written.long ∙ g.long;
      long_out = written.long_out ∙ g.long_out;
    }
      where
        next : v + 1 ≡ suc (suc g.done)
        next = omega (arith, g.is)

-- ---- the first table

module _ (ws : List ℕ) (c : part_check ws ≡ 0) (w : List ℕ) (blank : Blank ws w) where
  blank_distance : (x q : ℕ) → distance ws w x q ≡ 0
  blank_distance x q = go (distance ws w x q) refl
    where
      go : (d : ℕ) → distance ws w x q ≡ d → d ≡ 0
      go zero e = refl
      go (suc d) e =
          let (l, m) = distance_some ws c w x q d e in
          let (j, n, i) = in_node ws x m in
          absurd (omega (arith, subst (λ x. distance ws w x q ≡ suc d) (sym i) e, distance_row ws c w j q n l, blank j q n l))

  -- no node has a number yet
  pub blank_list : (o : List ℕ) (base : ℕ) → Waiting ws w o base 1 0
  blank_list o base = list_none ws w o base 1 (λ j n. not_known (λ t. let (q, l, e) = (numbered_iff w j 1).0 t in omega (arith, blank j q n l)))

  pub blank_round : {a : Automaton} {i : ℕ} {w' : List ℕ} → node_at ws i ≡ true → Hit (has_state a.accepts) i 16 1 w w' → (e : Expr) → Automates a e
      → Round holds (runs_in (drop 1 ws)) (drop 1 ws) e (number ws i) 0 (distance ws w')
  blank_round {a} {i} {w'} n r e h = round_first holds (runs_in (drop 1 ws)) (drop 1 ws) e (number ws i) (distance ws w') (λ x q. ⊎_elim
      (λ (s : x ≡ number ws i). subst (λ x. distance ws w' x q ≡ one (eqb x (number ws i) && accepts e q)) (sym s)
      (rw (eq-eqb (number ws i) (number ws i) refl) (own q)))
      (λ s. distance_rest ws c r n x q s ∙ blank_distance x q ∙ sym (ap (λ b. one (b && accepts e q)) (ne_eqb x (number ws i) s)))
      (eq_or_ne x (number ws i)))
    where
      bit : (b : Bool) → ◌≡◌ {A = ℕ} (cond (b && true) 1 0) (one b)
      bit true = refl
      bit false = refl

      high : (q : ℕ) → 16 ≤ q → accepts e q ≡ false
      high q l = not_known (λ (t : accepts e q ≡ true).
          omega (arith, leads_small holds (runs_in (drop 1 ws)) (drop 1 ws) e (number ws i) [] (number ws i) q (refl, passed t), h.small))

      own : (q : ℕ) → distance ws w' (number ws i) q ≡ one (accepts e q)
      own q = ⊎_elim
          (λ (l : q < 16). distance_row ws c w' i q n l ∙ r.row q l ∙ rw (blank i q n l, h.accepting q) (bit (accepts e q)))
          (λ (l : 16 ≤ q). distance_high ws c w' (number ws i) q l ∙ sym (ap one (high q l)))
          (lt_or_le q 16)

-- the node at i is noted on the first list, where it has a number
module _ {ws : List ℕ} {a : Automaton} {w w' o o' : List ℕ} {i height : ℕ} {new : Bool} (ready : Ready ws a w o) (blank : Blank ws w) (n : node_at ws i ≡ true)
    (r : Hit (has_state a.accepts) i 16 1 w w') (tells : new ≡ (numbered w' i 1 && not (numbered w i 1)))
    (out : o' ≡ cond new (put_half o first_base 0 i) o) (h : height ≡ cond new (0 + 1) 0) where
  abbrev none : Waiting ws w o first_base 1 0
  none = blank_list ws (whole_part ws ready.measurable.accepted) w blank o first_base

  pub first_ready : Ready ws a w' o'
  first_ready = ready_written (inl refl)
      (note_written n (omega arith) ready.measurable.few r tells none (list_room (inl refl) ready.measurable) out h) ready

  pub first_waiting : Waiting ws w' o' first_base 1 height
  first_waiting = note_waiting n (omega arith) ready.measurable.few r tells none (list_room (inl refl) ready.measurable) out h

  pub first_round : (e : Expr) → Automates a e → Round holds (runs_in (drop 1 ws)) (drop 1 ws) e (number ws i) 0 (distance ws w')
  first_round = blank_round ws (whole_part ws ready.measurable.accepted) w blank n r
