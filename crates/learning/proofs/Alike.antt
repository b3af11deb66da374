-- Walks from nodes reached from the doors stay among them, where they stay in the part; so alike parts have the same walks from there, and the same
-- door words. Assumes nothing.
use mathlib.Core.Path.{◌≡◌, sym, subst}
use mathlib.Core.Logic.{◌↔◌}
use mathlib.Core.Bool.{Bool, ◌&&◌}
use mathlib.Core.List.Memᴰ
use mathlib.Core.List.{List, map}
use Prim.Native.Nat.{ℕ, ◌≤◌}
use lib.Dec.{T, eqb, eqb_refl}
use lib.ListN.{drop}
use Rattle.sets.specs.Sets.{Mem, filter, member}
use Rattle.sets.specs.Reach.{Reach, seed, next}
use Rattle.sets.proofs.Tests.{and_iff, both}
use Rattle.sets.proofs.Sets.{filter_iff, member_iff, unique_by}
use Rattle.sets.proofs.Filter.{map_filter_iff}
use Rattle.sets.proofs.Reach.{reach_least}
use Rattle.files.specs.Field.{node_of, door_of, stopped_of, target_of, pair_node}
use Rattle.files.specs.Part.{is_node, is_door, nodes, nodes_with, stopped, running, edges, part_check}
use Rattle.files.proofs.Blocks.{doors_nodes, edge_of, running_iff}
use Rattle.files.proofs.Parts.{doors_ascending}
use Rattle.expressions.specs.Expr.{Expr, count}
use Rattle.walks.specs.Product.{step_in}
use Rattle.walks.proofs.Product.{exits_iff, step_iff}
use Rattle.learning.specs.Learning.{Reached, Alike}

-- Reached from the doors

-- an edge of a reached node leads to a reached one, or out of the part
pub edge_reached : (part : List ℕ) (x w : ℕ) → Reached part x → Mem w (edges part x) → Mem (target_of w) (nodes part) → Reached part (target_of w)
edge_reached part x w r m n = next r ((filter_iff _ (target_of w) _).1 (Memᴰ.map target_of m, (member_iff (target_of w) _).1 n))

pub reached_node : (part : List ℕ) (x : ℕ) → Reached part x → Mem x (nodes part)
reached_node part x (seed m) = doors_nodes part x m
reached_node part x (next {x = y} r m) = (member_iff x (nodes part)).0 ((filter_iff (λ t. member t (nodes part)) x (map target_of (edges part y))).0 m).1

-- Alike parts

pub alike_sym : {f g : List ℕ} → Alike f g → Alike g f
alike_sym s = record {
  site = sym s.site;
  reached = λ x. ((s.reached x).1, (s.reached x).0);
  node_word_lem = λ x r. sym (s.node_word_lem x ((s.reached x).1 r));
  edge_words = λ x r. sym (s.edge_words x ((s.reached x).1 r));
}

module _ (f g : List ℕ) (s : Alike f g) where
  -- the node word of a reached node stands in the other part
  word_on : (w : ℕ) → Mem w (drop 1 f) → T (is_node w) → Reached (drop 1 f) (node_of w) → Mem w (drop 1 g)
  word_on w m n r =
      let own = (filter_iff (λ v. is_node v && eqb (node_of v) (node_of w)) w (drop 1 f)).1 (m, both (is_node w) (eqb (node_of w) (node_of w)) n (eqb_refl (node_of w))) in
      ((filter_iff (λ v. is_node v && eqb (node_of v) (node_of w)) w (drop 1 g)).0 (subst (Mem w) (s.node_word_lem (node_of w) r) own)).0

  -- so it has the same marks there
  marked_on : (mark : ℕ → Bool) (x : ℕ) → Reached (drop 1 f) x → Mem x (nodes_with mark (drop 1 f)) → Mem x (nodes_with mark (drop 1 g))
  marked_on mark x r m =
      let (w, k, t, q) = (map_filter_iff node_of (λ w. is_node w && mark w) x (drop 1 f)).0 m in
      let n = ((and_iff (is_node w) (mark w)).0 t).0 in
      (map_filter_iff node_of (λ w. is_node w && mark w) x (drop 1 g)).1 (w, word_on w k n (subst (Reached (drop 1 f)) (sym q) r), t, q)

  door_words_lem : (w : ℕ) → Mem w (filter is_door (drop 1 f)) → Mem w (filter is_door (drop 1 g))
  door_words_lem w m =
      let (k, t) = (filter_iff is_door w (drop 1 f)).0 m in
      (filter_iff is_door w (drop 1 g)).1 (word_on w k ((and_iff (is_node w) (door_of w)).0 t).0 (seed (Memᴰ.map node_of m)), t)

-- Walks

module _ (f g : List ℕ) (s : Alike f g) (e : Expr) (small : count e ≤ 15) (seeds : List ℕ)
    (start : (c : ℕ) → Mem c seeds → Reached (drop 1 f) (pair_node c)) where
  -- a pair that is reached from such seeds is reached in the other part, and its node, if it is one of the part's, is reached from the doors
  walks_on : (c : ℕ) → Reach (step_in (drop 1 f) e) seeds c
      → (Mem (pair_node c) (nodes (drop 1 f)) → Reached (drop 1 f) (pair_node c)) × Reach (step_in (drop 1 g) e) seeds c
  walks_on = reach_least (λ c. (Mem (pair_node c) (nodes (drop 1 f)) → Reached (drop 1 f) (pair_node c)) × Reach (step_in (drop 1 g) e) seeds c)
      (λ c m. (λ n. start c m, seed m))
      (λ c d r h k.
      let (w, j, t, u) = (step_iff (drop 1 f) e small c d).0 k in
      let (l, a) = (exits_iff (drop 1 f) (pair_node c) w).0 j in
      let i = h.0 (edge_of (drop 1 f) (pair_node c) w l).2 in
      let runs : Mem (pair_node c) (stopped (drop 1 g)) → ⊥ = λ m. a (marked_on g f (alike_sym s) stopped_of (pair_node c) ((s.reached (pair_node c)).0 i) m) in (
        λ n. subst (Reached (drop 1 f)) t (edge_reached (drop 1 f) (pair_node c) w i l (subst (λ z. Mem z (nodes (drop 1 f))) (sym t) n)),
        next h.1 ((step_iff (drop 1 g) e small c d).1 (w, (exits_iff (drop 1 g) (pair_node c) w).1 (subst (Mem w) (s.edge_words (pair_node c) i) l, runs), t, u)),
      ))

  node_on : (c : ℕ) → Reach (step_in (drop 1 f) e) seeds c → Mem (pair_node c) (nodes (drop 1 f)) → Reached (drop 1 g) (pair_node c)
  node_on c r n = (s.reached (pair_node c)).0 ((walks_on c r).0 n)

  running_on : (c : ℕ) → Reach (step_in (drop 1 f) e) seeds c → Mem (pair_node c) (running (drop 1 f)) → Mem (pair_node c) (running (drop 1 g))
  running_on c r m =
      let (n, a) = (running_iff (drop 1 f) (pair_node c)).0 m in
      let i = node_on c r n in
      (running_iff (drop 1 g) (pair_node c)).1 (reached_node (drop 1 g) (pair_node c) i, λ k. a (marked_on g f (alike_sym s) stopped_of (pair_node c) i k))

-- and the other way round
module _ (f g : List ℕ) (s : Alike f g) (e : Expr) (small : count e ≤ 15) (seeds : List ℕ)
    (start : (c : ℕ) → Mem c seeds → Reached (drop 1 f) (pair_node c)) where
  back : (c : ℕ) → Mem c seeds → Reached (drop 1 g) (pair_node c)
  back c m = (s.reached (pair_node c)).0 (start c m)

  pub same_reached : (c : ℕ) → Reach (step_in (drop 1 f) e) seeds c ↔ Reach (step_in (drop 1 g) e) seeds c
  same_reached c = (λ r. (walks_on f g s e small seeds start c r).1, λ r. (walks_on g f (alike_sym s) e small seeds back c r).1)

  -- its node is one of the part's in both or in none, and so a running one
  pub same_node : (c : ℕ) → Reach (step_in (drop 1 f) e) seeds c → Mem (pair_node c) (nodes (drop 1 f)) ↔ Mem (pair_node c) (nodes (drop 1 g))
  same_node c r = (
    λ n. reached_node (drop 1 g) (pair_node c) (node_on f g s e small seeds start c r n),
    λ n. reached_node (drop 1 f) (pair_node c) (node_on g f (alike_sym s) e small seeds back c ((same_reached c).0 r) n),
  )

  pub same_running : (c : ℕ) → Reach (step_in (drop 1 f) e) seeds c → Mem (pair_node c) (running (drop 1 f)) ↔ Mem (pair_node c) (running (drop 1 g))
  same_running c r = (running_on f g s e small seeds start c r, running_on g f (alike_sym s) e small seeds back c ((same_reached c).0 r))

-- Doors

-- their words need not ascend, as the marks stand above the number; the numbers do
pub same_doors : (f g : List ℕ) → part_check f ≡ 0 → part_check g ≡ 0 → Alike f g → filter is_door (drop 1 f) ≡ filter is_door (drop 1 g)
same_doors f g a b s = unique_by node_of (filter is_door (drop 1 f)) (filter is_door (drop 1 g)) (doors_ascending f a) (doors_ascending g b)
    (door_words_lem f g s, door_words_lem g f (alike_sym s))
