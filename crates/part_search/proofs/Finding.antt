-- What callers read from the tables of a search: the outside targets, ascending, and the states that a node or an outside target is reached
-- in, as `Reach` has them. Assumes nothing.
use mathlib.Core.Path.{◌≡◌, refl, sym, ap, subst, ◌∙◌}
use mathlib.Core.Logic.{inl, inr, ⊎_elim, ◌↔◌}
use mathlib.Core.Bool.{true, not}
use mathlib.Core.List.{List, [], ◌∷◌, map}
use Prim.Native.Nat.{ℕ, zero, suc, ◌+◌, ◌<◌, ◌≤◌}
use native.Mathlib.Nat.{add-zero}
use native.Mathlib.Omega.{arith}
use lib.ListN.{get_or, drop, length-drop}
use lib.Seq.{get_or-drop}
use Rattle.sets.specs.Sets.{Mem, here, there, Ascending, set_of, filter, member}
use Rattle.sets.specs.Reach.{Reach}
use Rattle.sets.proofs.Cases.{eq_or_ne, clash}
use Rattle.sets.proofs.Sets.{unique, filter_ascending, set_of_lists}
use Rattle.sets.proofs.Lengths.{mem_at, at_mem}
use Rattle.sets.proofs.Tests.{passed, is_true, either}
use Rattle.files.specs.Field.{target_of, pair, pair_node, pair_state}
use Rattle.files.specs.Part.{is_edge, nodes, outside}
use Rattle.files.proofs.Blocks.{outside_iff}
use Rattle.expressions.specs.Expr.{Expr}
use Rattle.walks.specs.Product.{step_in}
use Rattle.slots.specs.Slots.{node_at, edge_at, number, slot_of, place_of, is_reached, Laid}
use Rattle.part_search.specs.Search.{Follow, Tables, Sought, Slot, Searched}
use Rattle.slots.proofs.Places.{in_node, node_in, nodes_same, edge_below, edge_no_node, node_below}
use Rattle.slots.proofs.Owning.{header_edge}
use Rattle.part_search.proofs.Reaching.{reach_slot}

-- ---- a list by its elements

-- f at the d numbers from `at` on
abbrev tab : (ℕ → ℕ) → ℕ → ℕ → List ℕ
tab f at zero = []
tab f at (suc d) = f at ∷ tab f (suc at) d

tab_at : (f : ℕ → ℕ) (at d k : ℕ) → k < d → get_or (tab f at d) k 0 ≡ f (at + k)
tab_at f at zero k l = absurd (omega arith)
tab_at f at (suc d) zero l = rw add-zero
tab_at f at (suc d) (suc k) l = tab_at f (suc at) d k (omega arith) ∙ ap f (omega arith)

tab_in : (f : ℕ → ℕ) (at d y : ℕ) → Mem y (tab f at d) → (k : ℕ) × (at ≤ k) × (k < at + d) × (f k ≡ y)
tab_in f at zero y m = elim m [ ]
tab_in f at (suc d) y (here e) = (at, omega arith, omega arith, sym e)
tab_in f at (suc d) y (there m) = let (k, a, b, e) = tab_in f (suc at) d y m in (k, omega arith, omega arith, e)

tab_has : (f : ℕ → ℕ) (at d k : ℕ) → at ≤ k → k < at + d → Mem (f k) (tab f at d)
tab_has f at zero k a b = absurd (omega arith)
tab_has f at (suc d) k a b = ⊎_elim (λ (e : k ≡ at). here (ap f e)) (λ e. there (tab_has f (suc at) d k (omega arith) (omega arith))) (eq_or_ne k at)

tab_ascending : (f : ℕ → ℕ) (at d : ℕ) → ((k l : ℕ) → at ≤ k → k < l → l < at + d → f k < f l) → Ascending (tab f at d)
tab_ascending f at zero h = tt
tab_ascending f at (suc d) h = (
  λ y m. let (k, a, b, e) = tab_in f (suc at) d y m in omega (arith, h at k (omega arith) (omega arith) (omega arith)),
  tab_ascending f (suc at) d (λ k l a b c. h k l (omega arith) b (omega arith)),
)

-- ---- the outside targets

module _ (ws : List ℕ) (t : ℕ) (w : List ℕ) (laid : Laid ws t w) where
  abbrev targets : List ℕ
  targets = tab (λ k. number ws (place_of w k)) 0 t

  -- a word behind the header
  word_behind : (x : ℕ) → edge_at ws x ≡ true → Mem (get_or ws x 0) (drop 1 ws)
  word_behind zero e = absurd (clash e (header_edge ws laid.accepted))
  word_behind (suc x) e =
      let l = edge_below ws (suc x) e in
      subst (λ y. Mem y (drop 1 ws)) (get_or-drop 1 ws x 0 ∙ ap (λ y. get_or ws y 0) (omega arith)) (at_mem 0 (drop 1 ws) x (omega (arith, length-drop 1 ws)))

  target_outside : (k : ℕ) → k < t → Mem (number ws (place_of w k)) (outside (drop 1 ws))
  unfolding number edge_at
  target_outside k b =
      let o = laid.listed k b in
      let j = place_of w k in
      (outside_iff (drop 1 ws) (number ws j)).1 (
        (get_or ws j 0, word_behind j o.edge, passed o.edge, refl),
        λ m.
            let (i, n, q) = in_node ws (number ws j) (rw (nodes_same ws laid.accepted) at m) in
            let z : slot_of w j ≡ i = laid.inner j i o.below o.edge (node_below ws i n) n q in
            clash (subst (λ y. node_at ws y ≡ true) (sym z ∙ o.self) n) (edge_no_node ws j o.edge),
      )

  outside_target : (y : ℕ) → Mem y (outside (drop 1 ws)) → (k : ℕ) × (k < t) × (number ws (place_of w k) ≡ y)
  unfolding number edge_at
  outside_target y m =
      let ((v, mv, tv, q), none) = (outside_iff (drop 1 ws) y).0 m in
      let (k, b, z) = mem_at v (drop 1 ws) mv in
      let x = suc k in
      let g : get_or ws x 0 ≡ v = ap (λ y. get_or ws y 0) (omega arith) ∙ sym (get_or-drop 1 ws k 0) ∙ z in
      let e : edge_at ws x ≡ true = ap is_edge g ∙ is_true (is_edge v) tv in
      let l = edge_below ws x e in
      let s = laid.target x l e in
      let is : number ws x ≡ y = ap target_of g ∙ q in
      ⊎_elim
      (λ n. absurd (none (rw (nodes_same ws laid.accepted) (subst (λ u. Mem u (nodes ws)) (s ∙ is) (node_in ws (slot_of w x) n)))))
      (λ n.
      let (i, a, f) = laid.lists (slot_of w x) (laid.outer x l e n) in
      (i, a, ap (number ws) f ∙ s ∙ is))
      (either (node_at ws (slot_of w x)))

  outside_is : outside (drop 1 ws) ≡ targets
  outside_is =
      unique (outside (drop 1 ws)) targets
      (filter_ascending (λ u. not (member u (nodes (drop 1 ws)))) (set_of (map target_of (filter is_edge (drop 1 ws))))
      (set_of_lists (map target_of (filter is_edge (drop 1 ws)))).ascending)
      (tab_ascending (λ k. number ws (place_of w k)) 0 t (λ k l a b c. laid.ascending k l b (omega arith))) (
        λ y m. let (k, b, e) = outside_target y m in subst (λ u. Mem u targets) e (tab_has (λ k. number ws (place_of w k)) 0 t k (omega arith) (omega arith)),
        λ y m. let (k, a, b, e) = tab_in (λ k. number ws (place_of w k)) 0 t y m in subst (λ u. Mem u (outside (drop 1 ws))) e (target_outside k (omega arith)),
      )

  -- the k-th of them is the target of the k-th place
  pub outside_at : (k : ℕ) → k < t → get_or (outside (drop 1 ws)) k 0 ≡ number ws (place_of w k)
  outside_at k b =
      ap (λ l. get_or l k 0) outside_is ∙ tab_at (λ k. number ws (place_of w k)) 0 t k b ∙ ap (λ j. number ws (place_of w j)) (omega arith)

-- ---- what a search found

module _ (ws : List ℕ) (e : Expr) (t : ℕ) (follow w w' cs : List ℕ) (tables : Tables ws e t w) (table : Follow e follow) (sought : Sought ws e w cs)
    (found : Searched ws t follow w w') where
  -- at a node
  pub node_found : (i q : ℕ) → node_at ws i ≡ true → q < 16 → (is_reached w' i q ≡ true) ↔ Reach (step_in (drop 1 ws) e) cs (pair (number ws i) q)
  node_found i q n b = found.exact e cs table tables.masked sought i q (node_below ws i n, inl n) b

  -- at the k-th outside target
  pub outer_found : (k q : ℕ) → k < t → q < 16
      → (is_reached w' (place_of w' k) q ≡ true) ↔ Reach (step_in (drop 1 ws) e) cs (pair (get_or (outside (drop 1 ws)) k 0) q)
  outer_found k q l b =
      let o = tables.laid.listed k l in
      rw (found.kept.places k l, outside_at ws t w tables.laid k l)
      (found.exact e cs table tables.masked sought (place_of w k) q (o.below, inr (o.self, o.edge)) b)

  -- what is reached outside the part: the pairs of the outside targets
  pub outside_found : (c : ℕ)
      → (Reach (step_in (drop 1 ws) e) cs c × (Mem (pair_node c) (nodes (drop 1 ws)) → ⊥))
      ↔ ((k : ℕ) × (k < t) × (get_or (outside (drop 1 ws)) k 0 ≡ pair_node c) × (is_reached w' (place_of w' k) (pair_state c) ≡ true))
  outside_found c = (to, from)
    where
      whole : (k : ℕ) → get_or (outside (drop 1 ws)) k 0 ≡ pair_node c → pair (get_or (outside (drop 1 ws)) k 0) (pair_state c) ≡ c
      whole k q = omega arith

      at_slot : (j : ℕ) → Slot ws w j → number ws j ≡ pair_node c → (Mem (pair_node c) (nodes (drop 1 ws)) → ⊥) → (k : ℕ) × (k < t) × (place_of w k ≡ j)
      at_slot j (l, inl n) q none =
          absurd (none (rw (nodes_same ws tables.laid.accepted) (subst (λ u. Mem u (nodes ws)) q (node_in ws j n))))
      at_slot j (l, inr (s, o)) q none = tables.laid.lists j (record { below = l; edge = o; self = s })

      to : (Reach (step_in (drop 1 ws) e) cs c × (Mem (pair_node c) (nodes (drop 1 ws)) → ⊥))
          → (k : ℕ) × (k < t) × (get_or (outside (drop 1 ws)) k 0 ≡ pair_node c) × (is_reached w' (place_of w' k) (pair_state c) ≡ true)
      to (r, none) =
          let (j, s, q) = reach_slot ws t w tables.laid follow e cs table tables.masked sought r in
          let (k, l, f) = at_slot j s q none in
          let z : get_or (outside (drop 1 ws)) k 0 ≡ pair_node c = outside_at ws t w tables.laid k l ∙ ap (number ws) f ∙ q in
          (k, l, z, (outer_found k (pair_state c) l (omega arith)).1 (subst (Reach (step_in (drop 1 ws) e) cs) (sym (whole k z)) r))

      from : ((k : ℕ) × (k < t) × (get_or (outside (drop 1 ws)) k 0 ≡ pair_node c) × (is_reached w' (place_of w' k) (pair_state c) ≡ true))
          → Reach (step_in (drop 1 ws) e) cs c × (Mem (pair_node c) (nodes (drop 1 ws)) → ⊥)
      from (k, l, z, h) = (
        subst (Reach (step_in (drop 1 ws) e) cs) (whole k z) ((outer_found k (pair_state c) l (omega arith)).0 h),
        ((outside_iff (drop 1 ws) (pair_node c)).0 (subst (λ u. Mem u (outside (drop 1 ws))) (sym (outside_at ws t w tables.laid k l) ∙ z) (target_outside ws t w tables.laid k l))).1,
      )
