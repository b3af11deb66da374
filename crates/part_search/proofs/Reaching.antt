-- A search by slots is the search by numbers: what steps along the tables come to from the marked pairs is what `Reach` of the part's steps
-- has. Assumes nothing.
use mathlib.Core.Path.{◌≡◌, refl, sym, ap, subst, ◌∙◌}
use mathlib.Core.Logic.{inl, inr, ⊎_elim, ◌↔◌}
use mathlib.Core.Bool.{true, false}
use mathlib.Core.List.{List}
use Prim.Native.Nat.{ℕ, ◌<◌}
use native.Mathlib.Omega.{arith}
use lib.Dec.{T}
use lib.ListN.{length, get_or, drop}
use Rattle.sets.specs.Sets.{Mem}
use Rattle.sets.specs.Reach.{Reach, seed, next}
use Rattle.sets.proofs.Cases.{clash}
use Rattle.sets.proofs.Tests.{passed, is_true, and_iff, both, either}
use Rattle.sets.proofs.Searches as searches
use Rattle.sets.proofs.Searches.{Comes, Marked}
use Rattle.files.specs.Field.{label_of, target_of, pair, pair_node, pair_state}
use Rattle.files.specs.Part.{edges, stopped}
use Rattle.files.proofs.Fields.{pair_node_lem, pair_state_lem}
use Rattle.files.proofs.Blocks.{edge_of}
use Rattle.expressions.specs.Expr.{Expr}
use Rattle.expressions.specs.Positions as positions
use Rattle.expressions.specs.Positions.{label_word}
use Rattle.expressions.specs.Labels.{holds}
use Rattle.expressions.proofs.Ranges.{step_range}
use Rattle.walks.specs.Product.{step_in}
use Rattle.slots.specs.Slots.{node_at, edge_at, stopped_at, idle_at, number, slot_of, is_reached, Laid}
use Rattle.part_search.specs.Search.{Step, Sought, Follow, Masked, Slot}
use Rattle.walks.proofs.Product.{exits_iff, step_iff, pair_step_iff}
use Rattle.slots.proofs.Places.{edge_no_node, node_below, in_node, nodes_same, nodes_apart, stopped_iff, idle_behind_lem, behind_iff}

module _ (ws : List ℕ) (t : ℕ) (w : List ℕ) (laid : Laid ws t w) where
  -- an outside target is no node
  outer_no_node : (i j : ℕ) → node_at ws i ≡ true → j < length ws → slot_of w j ≡ j → edge_at ws j ≡ true → number ws i ≡ number ws j → ⊥
  outer_no_node i j n l s e q =
      let k : slot_of w j ≡ i = laid.inner j i l e (node_below ws i n) n q in
      let z : i ≡ j = sym k ∙ s in
      clash (rw z at n) (edge_no_node ws j e)

  -- two slots have two numbers
  pub slots_apart : (i j : ℕ) → Slot ws w i → Slot ws w j → number ws i ≡ number ws j → i ≡ j
  slots_apart i j (l, inl n) (k, inl m) q = nodes_apart ws laid.accepted i j n m q
  slots_apart i j (l, inl n) (k, inr (s, e)) q = absurd (outer_no_node i j n k s e q)
  slots_apart i j (l, inr (s, e)) (k, inl m) q = absurd (outer_no_node j i m l s e (sym q))
  slots_apart i j (l, inr (s, e)) (k, inr (s', e')) q =
      laid.one i j (record { below = l; edge = e; self = s }) (record { below = k; edge = e'; self = s' }) q

  -- an edge word leads to a slot
  pub slot_of_lem : (x : ℕ) → x < length ws → edge_at ws x ≡ true → Slot ws w (slot_of w x)
  slot_of_lem x l e =
      (laid.below x l e, ⊎_elim (λ n. inl n) (λ n. let o = laid.outer x l e n in inr (o.self, o.edge)) (either (node_at ws (slot_of w x))))

  module _ (follow : List ℕ) (e : Expr) (cs : List ℕ) (table : Follow e follow) (masks : Masked ws e w) (sought : Sought ws e w cs) where
    abbrev Came : ℕ → ℕ → Type 0
    Came = Comes (Marked (length ws) (is_reached w)) (Step ws w follow)

    pub came_reach : {j q : ℕ} → Came j q → q < 16 → Reach (step_in (drop 1 ws) e) cs (pair (number ws j) q)
    unfolding number
    came_reach (searches.seed {i} {q} (l, m)) b = sought.sound i q l b m
    came_reach (searches.step {i} {q} {j} {p} r (q<, (x, d), f)) b =
        let y = d.behind in
        let edge = y.edges x y.after (omega arith) in
        let (run, lo, hi, h) = (masks x p y.below edge).0 d.mask in
        let m = (behind_iff ws laid.accepted i (get_or ws x 0) y.node).1 (x, y, refl) in
        let runs : Mem (number ws i) (stopped (drop 1 ws)) → ⊥ = λ s. clash (idle_behind_lem ws i x y ∙ (stopped_iff ws laid.accepted i y.node).0 s) run in
        next (came_reach r q<)
        ((pair_step_iff (drop 1 ws) e table.small (number ws i) q (number ws j) p q< b).1 (
          get_or ws x 0,
          (exits_iff (drop 1 ws) (number ws i) (get_or ws x 0)).1 (m, runs),
          sym (laid.target x y.below edge) ∙ ap (number ws) d.target,
          both (positions.next e q p) (holds (label_word e p) (label_of (get_or ws x 0))) (passed (sym (table.row q p q<) ∙ f)) h,
        ))

    -- a step leads from a node
    from_node : (i x v : ℕ) → Slot ws w i → number ws i ≡ x → Mem v (edges (drop 1 ws) x) → node_at ws i ≡ true
    from_node i x v (l, inl n) q m = n
    from_node i x v (l, inr (s, o)) q m =
        let (j, n, z) = in_node ws x (rw (nodes_same ws laid.accepted) at (edge_of (drop 1 ws) x v m).2) in
        absurd (outer_no_node j i n l s o (z ∙ sym q))

    -- a pair that is reached has a slot
    found_next : (c d : ℕ) → ((j : ℕ) × Slot ws w j × (number ws j ≡ pair_node c) × Came j (pair_state c)) → Mem d (step_in (drop 1 ws) e c)
        → (j : ℕ) × Slot ws w j × (number ws j ≡ pair_node d) × Came j (pair_state d)
    unfolding number
    found_next c d (i, sl, q, r) m =
        let (v, ov, tv, st) = (step_iff (drop 1 ws) e table.small c d).0 m in
        let (mv, runs) = (exits_iff (drop 1 ws) (pair_node c) v).0 ov in
        let n = from_node i (pair_node c) v sl q mv in
        let (x, b, z) = (behind_iff ws laid.accepted i v n).0 (subst (λ y. Mem v (edges (drop 1 ws) y)) (sym q) mv) in
        let edge = b.edges x b.after (omega arith) in
        let run : idle_at ws x ≡ false = idle_behind_lem ws i x b ∙ ⊎_elim
        (λ s. absurd (runs (subst (λ y. Mem y (stopped (drop 1 ws))) q ((stopped_iff ws laid.accepted i n).1 s)))) (λ s. s) (either (stopped_at ws i)) in
        let st' : T (positions.step holds e (pair_state c) (label_of (get_or ws x 0)) (pair_state d)) =
        subst (λ y. T (positions.step holds e (pair_state c) (label_of y) (pair_state d))) (sym z) st in
        let h = (and_iff (positions.next e (pair_state c) (pair_state d)) (holds (label_word e (pair_state d)) (label_of (get_or ws x 0)))).0 st' in
        let g = step_range holds e (pair_state c) (label_of (get_or ws x 0)) (pair_state d) st' in
        let small : pair_state c < 16 = omega arith in (
          slot_of w x,
          slot_of_lem x b.below edge,
          laid.target x b.below edge ∙ ap target_of z ∙ tv,
          searches.step r (
            small,
            (x, record { behind = b; before = b.below; target = refl; mask = (masks x (pair_state d) b.below edge).1 (run, g.0, g.1, h.1) }),
            table.row (pair_state c) (pair_state d) small ∙ is_true (positions.next e (pair_state c) (pair_state d)) h.0,
          ),
        )

    reach_came : {c : ℕ} → Reach (step_in (drop 1 ws) e) cs c → (j : ℕ) × Slot ws w j × (number ws j ≡ pair_node c) × Came j (pair_state c)
    reach_came (seed {x = c} m) = let (j, l, n, q, h) = sought.complete c m in (j, (l, inl n), q, searches.seed (l, h))
    reach_came (next {x = c} {y = d} r m) = found_next c d (reach_came r) m

    pub reach_slot : {c : ℕ} → Reach (step_in (drop 1 ws) e) cs c → (j : ℕ) × Slot ws w j × (number ws j ≡ pair_node c)
    reach_slot r = let (j, s, n, h) = reach_came r in (j, s, n)

    pub comes_reach : (j q : ℕ) → Slot ws w j → q < 16 → Came j q ↔ Reach (step_in (drop 1 ws) e) cs (pair (number ws j) q)
    comes_reach j q s b = (
      λ r. came_reach r b,
      λ r.
          let (i, k, n, h) = reach_came r in
          let z = slots_apart i j k s (n ∙ pair_node_lem (number ws j) q b) in
          subst (λ y. Came j y) (pair_state_lem (number ws j) q b) (subst (λ y. Came y (pair_state (pair (number ws j) q))) z h),
    )
