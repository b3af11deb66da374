-- What a first reply reports of a door: the pairs outside the part that walks from the door lead to. Assumes nothing.
use mathlib.Core.Path.{◌≡◌, refl, sym, ap, subst, ◌∙◌}
use mathlib.Core.Bool.{not}
use mathlib.Core.List.Memᴰ
use mathlib.Core.List.{List, [], ◌∷◌, map, flatten}
use Prim.Native.Nat.{ℕ, ◌*◌, ◌^◌, ◌≤◌, ◌<◌}
use native.Mathlib.Omega.{arith}
use native.Mathlib.Nat.{le_trans}
use lib.ListN.{length, drop, length-map}
use Rattle.sets.specs.Sets.{Mem, here, there, ◌⊆◌, Ascending, Lists, member}
use Rattle.sets.specs.Reach.{Reach, seed, next}
use Rattle.sets.proofs.Sets.{flatten_map_iff, lists_iff}
use Rattle.sets.proofs.Filter.{not_member_iff, filter_lists}
use Rattle.sets.proofs.Reach.{reach_least}
use Rattle.sets.proofs.Sums.{at_most, by_length, flatten_by}
use Rattle.sets.proofs.Lengths.{pigeonhole, ascending_distinct}
use Rattle.files.specs.Field.{label_of, target_of, pair, pair_node, pair_state, door_word}
use Rattle.files.specs.Part.{nodes, roots, stopped, edges, outside}
use Rattle.files.proofs.Fields.{pair_node_lem, pair_state_lem, pair_eta}
use Rattle.files.proofs.Blocks.{node_small, edge_of, stopped_nodes, outside_iff}
use Rattle.expressions.specs.Expr.{Expr, count}
use Rattle.expressions.specs.Labels.{holds}
use Rattle.expressions.proofs.Ranges.{step_range}
use Rattle.walks.specs.Product.{Walk, positions, step_in}
use Rattle.walks.proofs.Product.{positions_iff, positions_length, exits_iff, step_from, step_iff, walk_start, walk_reach, reach_walk, reached_lists, reached_below, reached_state}
use Rattle.first_replies.specs.FirstReply.{Reported, row_words, door_rows, IsFirstReply, reported}
use Rattle.first_replies.proofs.Written.{Good}

empty : (cs : List ℕ) → ((c : ℕ) → Mem c cs → ⊥) → cs ≡ []
empty [] n = refl
empty (c ∷ cs) n = absurd (n c (here refl))

-- a stopped door has no rows: its words in a first reply are its door word alone
pub stopped_door : {part path f : List ℕ} (r : IsFirstReply part path f) (x : ℕ) → Mem x r.doors → Mem x (stopped (drop 1 part))
    → door_rows (drop 1 part) (r.pairs x) r.states x ≡ door_word x (member x (roots (drop 1 part))) ∷ []
unfolding flatten
stopped_door {part} r x d s = ap (λ ws. door_word x (member x (roots (drop 1 part))) ∷ ws) (rows r.states (λ q m. m))
  where
    rows : (qs : List ℕ) → qs ⊆ r.states → flatten (map (λ q. row_words q (r.pairs x q)) qs) ≡ []
    rows [] h = refl
    rows (q ∷ qs) h =
        rw (empty (r.pairs x q) (λ c m. walk_start ((r.each_row x q d (h q (here refl))).sound c m).0 s)) (rows qs (λ p m. h p (there m)))

pub reported_lists : (part : List ℕ) (e : Expr) → count e ≤ 15 → (x q : ℕ) → pair x q < 2 ^ 20
    → Lists (λ c. Reach (step_in part e) (pair x q ∷ []) c × (Mem (pair_node c) (nodes part) → ⊥)) (reported part e x q)
unfolding reported
reported_lists part e small x q h = lists_iff
    (λ c. let i = not_member_iff (pair_node c) (nodes part) in (λ r. (r.0, i.0 r.1), λ r. (r.0, i.1 r.1)))
    (filter_lists (λ c. not (member (pair_node c) (nodes part)))
    (reached_lists part e small (pair x q ∷ []) (λ c m. omega (arith, Memᴰ.eq_of_singleton m))))

-- what is computed is what document 01 reports
pub reported_is : (part : List ℕ) (e : Expr) → count e ≤ 15 → (x q : ℕ) → x < 2 ^ 16 → q < 16
    → Lists (λ c. Reported part e x q (pair_node c) (pair_state c)) (reported part e x q)
reported_is part e small x q h k = lists_iff
    (λ c. (λ r. (walk c r.0 r.1, r.1), λ r. (subst (Reach (step_in part e) (pair x q ∷ [])) (pair_eta c) (walk_reach part e small (pair x q ∷ []) k r.0 (seed (here refl))), r.1)))
    (reported_lists part e small x q (omega arith))
  where
    walk : (c : ℕ) → Reach (step_in part e) (pair x q ∷ []) c → (Mem (pair_node c) (nodes part) → ⊥) → Walk part e x q (pair_node c) (pair_state c)
    walk c r out =
        let (b, m, w) = reach_walk part e small (pair x q ∷ []) c r (λ i. out (stopped_nodes part (pair_node c) i)) in
        rw (Memᴰ.eq_of_singleton m, pair_node_lem x q k, pair_state_lem x q k) at w

-- in a state of the expression it is what may stand in a row
pub reported_good : (part : List ℕ) (e : Expr) → count e ≤ 15 → (x q : ℕ) → x < 2 ^ 16 → q ≤ count e → Good (count e) (reported part e x q)
reported_good part e small x q h k = record {
  ascends = all.ascending;
  each = λ c m. let r = (all.sound c m).0 in (
    reached_below part e small (pair x q ∷ []) (λ c m. omega (arith, Memᴰ.eq_of_singleton m)) c r,
    reached_state part e small (pair x q ∷ []) (λ c m. rw (Memᴰ.eq_of_singleton m) (omega (arith, pair_state_lem x q (omega arith)))) c r,
  );
}
  where
    all : Lists (λ c. Reach (step_in part e) (pair x q ∷ []) c × (Mem (pair_node c) (nodes part) → ⊥)) (reported part e x q)
    all = reported_lists part e small x q (omega arith)

-- a pair at the end of an edge that leaves the part: its node is outside, its state a position
pub record Outbound (part : List ℕ) (e : Expr) (c : ℕ) : Type 0 where
  pub from : ℕ
  pub by : ℕ
  pub edge : Mem by (edges part from)
  pub target : target_of by ≡ pair_node c
  pub out : Mem (pair_node c) (nodes part) → ⊥
  pub position : Mem (pair_state c) (positions (count e))

module _ (part : List ℕ) (e : Expr) (small : count e ≤ 15) (x q : ℕ) (state : q < 16) (node : Mem x (nodes part)) where
  -- what is reported of a node of the part is outbound
  pub reported_outbound : (c : ℕ) → Mem c (reported part e x q) → Outbound part e c
  reported_outbound c m =
      let r = (reported_lists part e small x q (omega (arith, node_small part x node))).sound c m in
      last r.0 r.1
    where
      last : Reach (step_in part e) (pair x q ∷ []) c → (Mem (pair_node c) (nodes part) → ⊥) → Outbound part e c
      last (seed i) out = absurd (out (Memᴰ.cast (ap pair_node (Memᴰ.eq_of_singleton i) ∙ pair_node_lem x q state) node))
      last (next {x = b} r i) out =
          let (w, k, t, s) = (step_iff part e small b c).0 i in
          record {
            from = pair_node b;
            by = w;
            edge = ((exits_iff part (pair_node b) w).0 k).0;
            target = t;
            out = out;
            position = (positions_iff (count e) (pair_state c)).1 (step_range holds e (pair_state b) (label_of w) (pair_state c) s);
          }

  -- in a state that is none of the expression's nothing is reported
  pub reported_none : count e < q → reported part e x q ≡ []
  reported_none k = empty (reported part e x q) (λ c m.
      let r = (reported_lists part e small x q (omega (arith, node_small part x node))).sound c m in
      r.1 (Memᴰ.cast (ap pair_node (stays c r.0) ∙ pair_node_lem x q state) node))
    where
      stays : (c : ℕ) → Reach (step_in part e) (pair x q ∷ []) c → c ≡ pair x q
      stays = reach_least (λ c. c ≡ pair x q) (λ c i. Memᴰ.eq_of_singleton i)
          (λ c d r i j. let (w, l, t, s) = (step_iff part e small c d).0 j in
          absurd (omega (arith, step_from e (pair_state c) (label_of w) (pair_state d) s, pair_state_lem x q state)))

  -- at most every outside target with every position
  pub reported_length : length (reported part e x q) ≤ length (outside part) * count e
  reported_length = le_trans
      (pigeonhole (reported part e x q) (flatten (map row_of (outside part))) (ascending_distinct (reported part e x q) sorted) inside)
      (flatten_by at_most by_length row_of (count e) (outside part) (λ t m. rows t))
    where
      row_of : ℕ → List ℕ
      row_of t = map (pair t) (positions (count e))

      rows : (t : ℕ) → length (row_of t) ≤ count e
      rows t = omega (arith, length-map (positions (count e)) (pair t), positions_length (count e))

      sorted : Ascending (reported part e x q)
      sorted = (reported_lists part e small x q (omega (arith, node_small part x node))).ascending

      inside : reported part e x q ⊆ flatten (map row_of (outside part))
      inside c m =
          let r = reported_outbound c m in
          let k = edge_of part r.from r.by r.edge in
          (flatten_map_iff row_of c (outside part)).1 (
            pair_node c,
            (outside_iff part (pair_node c)).1 ((r.by, k.0, k.1, r.target), r.out),
            Memᴰ.cast (sym (pair_eta c)) (Memᴰ.map (pair (pair_node c)) r.position),
          )
