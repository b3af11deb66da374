-- Walks of a part and of the position automaton together. A pair (node, state) is one number; a step of the product is an edge of the part whose
-- label the automaton takes; and the computed lists are what they should be: `reached` all that is reached, `answers` the nodes reached in an
-- accepting state. The expression has at most 15 letters, so that a state fits its four bits. Assumes nothing.
use mathlib.Core.Path.{◌≡◌, refl, sym, subst}
use mathlib.Core.Logic.{◌↔◌, inl, inr, ⊎_elim}
use mathlib.Core.Bool.{Bool, not, ◌&&◌}
use mathlib.Core.List.Memᴰ
use mathlib.Core.List.{List, [], ◌∷◌, map}
use Prim.Native.Nat.{ℕ, zero, suc, ◌^◌, ◌≤◌, ◌<◌}
use native.Mathlib.Omega.{arith}
use native.Mathlib.Nat.{le_trans}
use native.Mathlib.Decide.{dec_le}
use lib.Dec.{T, eqb, eqb→eq, eqb_refl}
use lib.ListN.{length, length-append}
use Rattle.sets.specs.Sets.{Mem, here, there, ◌⊆◌, Ascending, Lists, filter, member, any}
use Rattle.sets.specs.Reach.{Reach, seed, next}
use Rattle.sets.proofs.Tests.{either, passed, and_iff, both}
use Rattle.sets.proofs.Sets.{append_ascending, flatten_map_iff, lists_iff, filter_iff, member_iff, filter_ascending}
use Rattle.sets.proofs.Filter.{any_iff, filter_length, filter_lists, lists_self, map_filter_iff}
use Rattle.sets.proofs.Reach.{closure_lists, reach_least}
use Rattle.files.specs.Field.{label_of, target_of, pair, pair_node, pair_state}
use Rattle.files.specs.Part.{edges, nodes, stopped, running}
use Rattle.files.proofs.Fields.{pair_node_lem, pair_state_lem}
use Rattle.files.proofs.Blocks.{nodes_length, edge_of, running_iff}
use Rattle.expressions.specs.Expr.{Expr, count}
use Rattle.expressions.specs.Positions.{follow, label_word, step, accepts}
use Rattle.expressions.specs.Labels.{holds}
use Rattle.expressions.proofs.Ranges.{step_range, last_within, follow_within}
use Rattle.walks.specs.Product.{Walk, stay, go, positions, exits, step_in, reached, answers}

pub positions_iff : (n p : ℕ) → Mem p (positions n) ↔ ((1 ≤ p) × (p ≤ n))
positions_iff zero p = (λ m. elim m [ ], λ h. absurd (omega arith))
positions_iff (suc n) p = (
  λ m. ⊎_elim (λ k. omega (arith, (positions_iff n p).0 k)) (λ k. omega (arith, Memᴰ.eq_of_singleton k)) (Memᴰ.append_cases (positions n) m),
  λ h. elim (dec_le p n) [
    | yes k ↦ Memᴰ.append_left (suc n ∷ []) ((positions_iff n p).1 (h.0, k))
    | no k ↦ Memᴰ.append_right (positions n) (here {x = suc n} (omega arith))
  ],
)

pub positions_length : (n : ℕ) → length (positions n) ≡ n
positions_length zero = refl
positions_length (suc n) = simp length-append (omega (arith, positions_length n))

-- the states of the automaton, 0 and the positions
pub states_iff : (n q : ℕ) → Mem q (0 ∷ positions n) ↔ (q ≤ n)
states_iff n zero = (λ m. omega arith, λ h. here refl)
states_iff n (suc q) = (to, λ h. there ((positions_iff n (suc q)).1 (omega arith, h)))
  where
    to : Mem (suc q) (0 ∷ positions n) → suc q ≤ n
    to (here e) = absurd (omega arith)
    to (there m) = ((positions_iff n (suc q)).0 m).1

pub states_ascending : (n : ℕ) → Ascending (0 ∷ positions n)
states_ascending n = (λ p m. ((positions_iff n p).0 m).0, ascends n)
  where
    ascends : (n : ℕ) → Ascending (positions n)
    ascends zero = tt
    ascends (suc n) = append_ascending (positions n) (suc n ∷ []) (ascends n) (λ y m. elim m [ ], tt)
        (λ x y m k. omega (arith, (positions_iff n x).0 m, Memᴰ.eq_of_singleton k))

pub accepts_small : (e : Expr) (q : ℕ) → T (accepts e q) → q ≤ count e
accepts_small e zero t = omega arith
accepts_small e (suc q) t = omega (arith, last_within e 0 (suc q) t)

-- a step goes from a state of the expression
pub step_from : (e : Expr) (q a p : ℕ) → T (step holds e q a p) → q ≤ count e
step_from e zero a p t = omega arith
step_from e (suc q) a p t = omega (arith, follow_within e 0 (suc q) p ((and_iff (follow e 0 (suc q) p) (holds (label_word e p) a)).0 t).0)

-- a walk may take the edges of nodes that are not stopped
pub exits_iff : (part : List ℕ) (x w : ℕ) → Mem w (exits part x) ↔ (Mem w (edges part x) × (Mem x (stopped part) → ⊥))
exits_iff part x w = elim (either (member x (stopped part))) [
  | inl b ↦ rw b (λ m. elim m [ ], λ m. absurd (m.1 ((member_iff x (stopped part)).0 (passed b))))
  | inr b ↦ rw b (λ m. (m, λ k. rw b at ((member_iff x (stopped part)).1 k)), λ m. m.0)
]

-- exits leave running nodes
pub exits_running : (part : List ℕ) (x w : ℕ) → Mem w (exits part x) → Mem x (running part)
exits_running part x w m = let (k, r) = (exits_iff part x w).0 m in (running_iff part x).1 ((edge_of part x w k).2, r)

-- no walk starts at a stopped node, and none ends at one
pub walk_start : {part : List ℕ} {e : Expr} {x q y t : ℕ} → Walk part e x q y t → Mem x (stopped part) → ⊥
walk_start (stay a) = a
walk_start {part} {x = x} (go w n m s k) = ((running_iff part x).0 n).1

pub walk_end : {part : List ℕ} {e : Expr} {x q y t : ℕ} → Walk part e x q y t → Mem y (stopped part) → ⊥
walk_end (stay a) = a
walk_end (go w n m s k) = walk_end k

-- a walk, one edge longer
walk_on : {part : List ℕ} {e : Expr} {x q y t : ℕ} (p w : ℕ) → Walk part e x q y t → Mem y (running part) → Mem w (edges part y)
    → T (step holds e t (label_of w) p) → (Mem (target_of w) (stopped part) → ⊥) → Walk part e x q (target_of w) p
walk_on p w (stay a) n m s b = go w n m s (stay b)
walk_on p w (go v i j k r) n m s b = go v i j k (walk_on p w r n m s b)

running_ascending : (part : List ℕ) → Ascending (nodes part) → Ascending (running part)
running_ascending part a = filter_ascending (λ x. not (member x (stopped part))) (nodes part) a

-- answers are nodes of the part, in the part's order
module _ (part : List ℕ) (e : Expr) (seeds : List ℕ) where
  -- the node x is reached in an accepting state
  abbrev lands : ℕ → Bool
  lands x = any (λ c. eqb (pair_node c) x && accepts e (pair_state c)) (reached part e seeds)

  pub answers_nodes : answers part e seeds ⊆ nodes part
  unfolding answers
  answers_nodes x m = ((running_iff part x).0 ((filter_iff lands x (running part)).0 m).0).0

  pub answers_ascending : Ascending (nodes part) → Ascending (answers part e seeds)
  unfolding answers
  answers_ascending a = filter_ascending lands (running part) (running_ascending part a)

  -- answers are no more than the part's words
  pub answers_length : length (answers part e seeds) ≤ length part
  unfolding answers
  answers_length = le_trans (filter_length lands (running part))
      (le_trans (filter_length (λ x. not (member x (stopped part))) (nodes part)) (nodes_length part))

module _ (part : List ℕ) (e : Expr) (small : count e ≤ 15) where
  -- a step: an edge of c's node, which is not stopped, leads to d's node, and on its label c's state steps to d's
  pub step_iff : (c d : ℕ) → Mem d (step_in part e c)
      ↔ ((w : ℕ) × Mem w (exits part (pair_node c)) × (target_of w ≡ pair_node d) × T (step holds e (pair_state c) (label_of w) (pair_state d)))
  unfolding step_in
  step_iff c d = (
    λ m.
        let (w, k, l) = all.0 m in
        let (p, i, s, q) = (to w).0 l in
        let h = (positions_iff (count e) p).0 i in
        (w, k, omega arith, subst (λ p. T (test w p)) (omega arith) s),
    λ (w, k, t, s).
        let h = step_range holds e (pair_state c) (label_of w) (pair_state d) s in
        all.1 (w, k, (to w).1 (pair_state d, (positions_iff (count e) (pair_state d)).1 h, s, omega arith)),
  )
    where
      test : ℕ → ℕ → Bool
      test w = step holds e (pair_state c) (label_of w)

      -- the pairs that the edge w leads to
      by : ℕ → List ℕ
      by w = map (pair (target_of w)) (filter (test w) (positions (count e)))

      to : (w : ℕ) → Mem d (by w) ↔ ((p : ℕ) × Mem p (positions (count e)) × T (test w p) × (pair (target_of w) p ≡ d))
      to w = map_filter_iff (pair (target_of w)) (test w) d (positions (count e))

      all : Mem d (step_in part e c) ↔ ((w : ℕ) × Mem w (exits part (pair_node c)) × Mem d (by w))
      all = flatten_map_iff by d (exits part (pair_node c))

  pub pair_step_iff : (x q y t : ℕ) → q < 16 → t < 16
      → Mem (pair y t) (step_in part e (pair x q)) ↔ ((w : ℕ) × Mem w (exits part x) × (target_of w ≡ y) × T (step holds e q (label_of w) t))
  pair_step_iff x q y t h k = rw (pair_node_lem x q h, pair_state_lem x q h, pair_node_lem y t k, pair_state_lem y t k) at (step_iff (pair x q) (pair y t))

  step_below : (c d : ℕ) → Mem d (step_in part e c) → d < 2 ^ 20
  step_below c d m = let r = (step_iff c d).0 m in omega (arith, r.2)

  -- walks are what is reached by steps, but for pairs of stopped nodes
  pub walk_reach : (seeds : List ℕ) {x q y t : ℕ} → q < 16 → Walk part e x q y t → Reach (step_in part e) seeds (pair x q) → Reach (step_in part e) seeds (pair y t)
  walk_reach seeds h (stay a) r = r
  walk_reach seeds h (go {x = x} {q = q} {p = p} w n m s k) r =
      let l = step_range holds e q (label_of w) p s in
      walk_reach seeds (omega arith) k (next r ((pair_step_iff x q (target_of w) p h (omega arith)).1 (w, (exits_iff part x w).1 (m, ((running_iff part x).0 n).1), refl, s)))

  pub reach_walk : (seeds : List ℕ) (c : ℕ) → Reach (step_in part e) seeds c → (Mem (pair_node c) (stopped part) → ⊥)
      → (b : ℕ) × Mem b seeds × Walk part e (pair_node b) (pair_state b) (pair_node c) (pair_state c)
  reach_walk seeds c (seed m) a = (c, m, stay a)
  reach_walk seeds d (next {x = c} r m) a =
      let (w, j, t, s) = (step_iff c d).0 m in
      let (l, o) = (exits_iff part (pair_node c) w).0 j in
      let (b, i, k) = reach_walk seeds c r o in (
        b,
        i,
        subst (λ y. Walk part e (pair_node b) (pair_state b) y (pair_state d)) t
            (walk_on (pair_state d) w k (exits_running part (pair_node c) w j) l s (subst (λ y. Mem y (stopped part) → ⊥) (sym t) a)),
      )

  -- from states of the expression, only states of the expression are reached
  pub reached_state : (seeds : List ℕ) → ((c : ℕ) → Mem c seeds → pair_state c ≤ count e)
      → (c : ℕ) → Reach (step_in part e) seeds c → pair_state c ≤ count e
  reached_state seeds s = reach_least (λ c. pair_state c ≤ count e) s
      (λ c d r h m. let (w, k, t, s) = (step_iff c d).0 m in (step_range holds e (pair_state c) (label_of w) (pair_state d) s).1)

  module _ (seeds : List ℕ) (below : (c : ℕ) → Mem c seeds → c < 2 ^ 20) where
    pub reached_lists : Lists (Reach (step_in part e) seeds) (reached part e seeds)
    unfolding reached
    reached_lists = closure_lists (step_in part e) seeds below (λ c d r. step_below c d)

    pub reached_below : (c : ℕ) → Reach (step_in part e) seeds c → c < 2 ^ 20
    reached_below = reach_least (λ c. c < 2 ^ 20) below (λ c d r h. step_below c d)

    -- the running nodes of the part that are reached in an accepting state
    pub answers_lists : Ascending (nodes part)
        → Lists (λ x. Mem x (running part) × ((q : ℕ) × Reach (step_in part e) seeds (pair x q) × T (accepts e q))) (answers part e seeds)
    unfolding answers
    answers_lists a = lists_iff (λ x. (λ r. (r.0, (hit x).0 r.1), λ r. (r.0, (hit x).1 r.1))) (filter_lists (λ x. any (λ c. at x c) all) (lists_self (running_ascending part a)))
      where
        all : List ℕ
        all = reached part e seeds

        at : ℕ → ℕ → Bool
        at x c = eqb (pair_node c) x && accepts e (pair_state c)

        hit : (x : ℕ) → T (any (at x) all) ↔ ((q : ℕ) × Reach (step_in part e) seeds (pair x q) × T (accepts e q))
        hit x = (
          λ t.
              let (c, m, k) = (any_iff (at x) all).0 t in
              let i = simp and_iff at k in
              (pair_state c, subst (Reach (step_in part e) seeds) (omega (arith, eqb→eq)) (reached_lists.sound c m), i.1),
          λ (q, r, k).
              let h : q < 16 = omega (arith, accepts_small e q k) in
              let i : T (at x (pair x q)) = rw (pair_node_lem x q h, pair_state_lem x q h) (both (eqb x x) (accepts e q) (eqb_refl x) k) in
              (any_iff (at x) all).1 (pair x q, reached_lists.complete (pair x q) r, i),
        )
