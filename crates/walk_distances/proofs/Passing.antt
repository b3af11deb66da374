-- A round, by the list of the nodes that have the number before: when each of them is visited, all that has a link onto that number has the next.
-- Assumes nothing.
use mathlib.Core.Path.{◌≡◌, refl, sym, ap, subst, ◌∙◌}
use mathlib.Core.Logic.{inl, inr, ⊎_elim}
use mathlib.Core.Bool.{Bool, true, false, ◌&&◌, ◌||◌}
use mathlib.Core.List.{List}
use Prim.Native.Nat.{ℕ, zero, suc, ◌+◌, ◌-◌, ◌*◌, ◌≤◌, ◌<◌}
use native.Mathlib.Nat.{le_refl}
use native.Mathlib.Omega.{arith}
use native.Mathlib.Numerals.{add-one}
use borrow.Author.Tests.{eq-eqb}
use lib.Dec.{eqb}
use lib.ListN.{length, get_or, drop}
use Rattle.sets.specs.Sets.{Mem}
use Rattle.sets.specs.Table.{half}
use Rattle.sets.proofs.Cases.{clash, and_left, and_right, and_intro, or_left, or_right, eq_or_ne}
use Rattle.sets.proofs.Stacks.{stacked_empty}
use Rattle.sets.proofs.Tests.{either}
use Rattle.sets.proofs.Tallies.{tally_bound}
use Rattle.files.specs.Field.{target_of}
use Rattle.files.specs.Part.{edges, part_check}
use Rattle.files.proofs.Parts.{whole_part}
use Rattle.files.proofs.Blocks.{edge_of}
use Rattle.expressions.specs.Expr.{Expr}
use Rattle.expressions.specs.Labels.{holds}
use Rattle.paths.specs.declared.automaton.Automaton.{Automaton}
use Rattle.paths.specs.Automaton.{Automates}
use Rattle.slots.specs.Slots.{node_at, edge_at, number}
use Rattle.slots.proofs.Places.{in_node, node_below, nodes_same, behind_iff}
use Rattle.file_walks.specs.Walks.{runs_in}
use Rattle.best_walks.proofs.Rounds.{Turning, Turned, turning_none}
use Rattle.walk_rows.specs.Distances.{distance, numbered}
use Rattle.walk_rows.proofs.Positions.{distance_row, distance_some}
use Rattle.walk_rows.proofs.Cells.{numbered_iff}
use Rattle.walk_distances.specs.Rounds.{Handled, Turns, Waiting, Ready, Starting, Written}
use Rattle.walk_distances.proofs.Handling.{weaker}
use Rattle.walk_distances.proofs.Noting.{written_refl, written_trans, ready_written}
use Rattle.walk_distances.proofs.Chaining.{into}

-- ---- numbers and lists

-- a node that has a number in the table has it in its row, and the other way round
pub distance_numbered : (ws : List ℕ) → part_check ws ≡ 0 → (w : List ℕ) (x q d : ℕ) → distance ws w x q ≡ suc d
    → (j : ℕ) × (node_at ws j ≡ true) × (number ws j ≡ x) × (numbered w j (suc d) ≡ true)
distance_numbered ws c w x q d e =
    let (l, m) = distance_some ws c w x q d e in
    let (j, n, i) = in_node ws x m in
    (j, n, i, (numbered_iff w j (suc d)).1 (q, l, sym (distance_row ws c w j q n l) ∙ subst (λ x. distance ws w x q ≡ suc d) (sym i) e))

pub numbered_distance : (ws : List ℕ) → part_check ws ≡ 0 → (w : List ℕ) (j v : ℕ) → node_at ws j ≡ true → numbered w j v ≡ true
    → (q : ℕ) × (distance ws w (number ws j) q ≡ v)
numbered_distance ws c w j v n t = let (q, l, e) = (numbered_iff w j v).0 t in (q, distance_row ws c w j q n l ∙ e)

module _ {ws w o : List ℕ} {base v count : ℕ} (s : Waiting ws w o base v count) where
  -- what has the number is on the list
  pub list_has : (j : ℕ) → node_at ws j ≡ true → numbered w j v ≡ true → (k : ℕ) × (k < count) × (half o base k ≡ j)
  list_has j n t = s.stacked.held j (node_below ws j n) (and_intro (node_at ws j) (numbered w j v) n t)

  -- what is on the list is a node that has it
  pub list_node : (k : ℕ) → k < count → node_at ws (half o base k) ≡ true
  list_node k l = and_left (node_at ws (half o base k)) (numbered w (half o base k) v) (s.stacked.live k l)

  pub list_numbered : (k : ℕ) → k < count → numbered w (half o base k) v ≡ true
  list_numbered k l = and_right (node_at ws (half o base k)) (numbered w (half o base k) v) (s.stacked.live k l)

  pub list_short : count ≤ length ws
  list_short = omega (arith, s.stacked.count, tally_bound (λ j. node_at ws j && numbered w j v) (length ws))

-- no node has the number
pub list_none : (ws w o : List ℕ) (base v : ℕ) → ((j : ℕ) → node_at ws j ≡ true → numbered w j v ≡ false) → Waiting ws w o base v 0
list_none ws w o base v h = record {
  stacked = stacked_empty (length ws) (λ j. node_at ws j && numbered w j v) (half o base) (λ j l. none j);
}
  where
    none : (j : ℕ) → (node_at ws j && numbered w j v) ≡ false
    none j = elim (either (node_at ws j)) [ inl t ↦ rw t (h j t) | inr f ↦ rw f ]

-- ---- a round

-- an edge word into one of the first k nodes of the list
abbrev pub visited : List ℕ → List ℕ → ℕ → ℕ → ℕ → Bool
visited ws o from zero z = false
visited ws o from (suc k) z = visited ws o from k z || into ws (half o from k) z

visited_at : (ws o : List ℕ) (from k j z : ℕ) → j < k → edge_at ws z ≡ true → number ws z ≡ number ws (half o from j) → visited ws o from k z ≡ true
visited_at ws o from zero j z l e i = absurd (omega arith)
visited_at ws o from (suc k) j z l e i = ⊎_elim
    (λ (q : j ≡ k). or_right (visited ws o from k z) (into ws (half o from k) z) (subst (λ k. into ws (half o from k) z ≡ true) q
    (and_intro (edge_at ws z) (eqb (number ws z) (number ws (half o from j))) e (eq-eqb (number ws z) (number ws (half o from j)) i))))
    (λ q. or_left (visited ws o from k z) (into ws (half o from k) z) (visited_at ws o from k j z (omega (arith, q)) e i))
    (eq_or_ne j k)

target_of_lem : (ws : List ℕ) (z u : ℕ) → get_or ws z 0 ≡ u → number ws z ≡ target_of u
unfolding number
target_of_lem ws z u e = ap target_of e

-- the first k nodes of the list at `from` are visited
pub record Rounding (ws : List ℕ) (a : Automaton) (from to v : ℕ) (w₀ w o₀ o : List ℕ) (top k : ℕ) : Type 0 where
  pub turning : (e : Expr) → Automates a e → (y d : ℕ) → v ≡ suc (suc d)
      → Turning holds (runs_in (drop 1 ws)) (drop 1 ws) e y d (distance ws w₀) (distance ws w) (Handled ws (visited ws o₀ from k))
  pub written : Written ws to v w₀ w o₀ o
  pub waiting : Waiting ws w o to v top

pub rounding_first : (ws : List ℕ) (a : Automaton) (from to v : ℕ) (w o : List ℕ) → ((j : ℕ) → node_at ws j ≡ true → numbered w j v ≡ false)
    → Rounding ws a from to v w w o o 0 0
rounding_first ws a from to v w o none = record {
  turning = λ e h y d is. weaker (runs_in (drop 1 ws)) (drop 1 ws) e y d (distance ws w) (distance ws w) (λ x u. ⊥) (Handled ws (visited ws o from 0))
      (turning_none holds (runs_in (drop 1 ws)) (drop 1 ws) e y d (distance ws w)) (λ x u (b, i, m, p, q, t). clash t refl);
  written = written_refl ws to v w o;
  waiting = list_none ws w o to v none;
}

module _ {ws : List ℕ} {a : Automaton} {from to v count : ℕ} {w₀ o₀ : List ℕ} (start : Starting ws a w₀ o₀ from to count v) where
  abbrev last : Waiting ws w₀ o₀ from (v - 1) count
  last = start.listed (v - 1) (omega arith)

  module _ {w o : List ℕ} {top k : ℕ} (g : Rounding ws a from to v w₀ w o₀ o top k) where
    pub rounding_ready : Ready ws a w o
    rounding_ready = ready_written start.writes g.written start.ready

    -- the list that is read is not written
    rounding_same : k < count → half o from k ≡ half o₀ from k
    rounding_same l =
        let short = list_short last in
        g.written.list from k (⊎_elim
        (λ (p : from ≡ _). ⊎_elim (λ q. absurd (start.apart (p ∙ sym q))) (λ q. inl (omega (arith, start.ready.measurable.few))) start.writes)
        (λ (p : from ≡ _). ⊎_elim (λ q. inr (omega arith)) (λ q. absurd (start.apart (p ∙ sym q))) start.writes)
        start.reads)

    pub rounding_node : {i : ℕ} → k < count → i ≡ half o from k → node_at ws i ≡ true
    rounding_node l e = subst (λ i. node_at ws i ≡ true) (sym (e ∙ rounding_same l)) (list_node last k l)

    pub rounding_room : k < count → from + 2 * k + 1 < length o
    rounding_room l = ⊎_elim
        (λ p. omega (arith, list_short last, rounding_ready.measurable.few, rounding_ready.measurable.holds))
        (λ p. omega (arith, list_short last, rounding_ready.measurable.few, rounding_ready.measurable.holds))
        start.reads

    pub rounding_next : {i : ℕ} {w' o' : List ℕ} {top' : ℕ} → k < count → i ≡ half o from k
        → ((done : ℕ → Bool) → Turns ws a v w w' done (λ z. done z || (edge_at ws z && eqb (number ws z) (number ws i))))
        → Written ws to v w w' o o' → Waiting ws w' o' to v top' → Rounding ws a from to v w₀ w' o₀ o' top' (k + 1)
    rounding_next {i} {w'} l e turns written s = record {
      turning = λ f h y d is.
          subst (λ n. Turning holds (runs_in (drop 1 ws)) (drop 1 ws) f y d (distance ws w₀) (distance ws w') (Handled ws (visited ws o₀ from n))) (sym (add-one k))
          (subst (λ i. Turning holds (runs_in (drop 1 ws)) (drop 1 ws) f y d (distance ws w₀) (distance ws w') (Handled ws (λ z. visited ws o₀ from k z || into ws i z)))
          (e ∙ rounding_same l) (turns (visited ws o₀ from k) f h y d (distance ws w₀) is (g.turning f h y d is)));
      written = written_trans g.written written;
      waiting = s;
    }

    pub rounding_last : count ≤ k → (e : Expr) → Automates a e → (y d : ℕ) → v ≡ suc (suc d)
        → Turned holds (runs_in (drop 1 ws)) (drop 1 ws) e y d (distance ws w₀) (distance ws w)
    rounding_last l e h y d is =
        let t = g.turning e h y d is in
        record { kept = t.kept; made = t.made; all = λ x q i o. t.all x q i o (handled x o.word o.state o.edge o.has) }
      where
        c : part_check ws ≡ 0
        c = whole_part ws start.ready.measurable.accepted

        handled : (x u q : ℕ) → Mem u (edges (drop 1 ws) x) → distance ws w₀ (target_of u) q ≡ suc d → Handled ws (visited ws o₀ from k) x u
        handled x u q m i =
            let (b, n, j) = in_node ws x (subst (Mem x) (nodes_same ws c) (edge_of (drop 1 ws) x u m).2) in
            let (z, r, p) = (behind_iff ws c b u n).0 (subst (λ x. Mem u (edges (drop 1 ws) x)) (sym j) m) in
            let (t, n', j', f) = distance_numbered ws c w₀ (target_of u) q d i in
            let (k', l', at) = list_has (start.listed (suc d) is) t n' f in
            (b, z, r, j, p, visited_at ws o₀ from k k' z (omega arith) (r.edges z r.after (le_refl z)) (target_of_lem ws z u p ∙ sym j' ∙ ap (number ws) (sym at)))
