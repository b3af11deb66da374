-- Demand 2's list: of a plant that a whole file holds, the old search lists exactly the nodes to which a walk from the root spells a word of the
-- path. Assumes nothing.
use mathlib.Core.Path.{◌≡◌, sym, subst}
use mathlib.Core.Logic.{◌↔◌}
use mathlib.Core.List.Memᴰ
use mathlib.Core.List.{List, map}
use Prim.Native.Nat.{ℕ, ◌^◌, ◌≤◌, ◌<◌}
use native.Mathlib.Omega.{arith}
use lib.Dec.{T}
use lib.ListN.{drop}
use Rattle.sets.specs.Sets.{Mem, Lists}
use Rattle.sets.specs.Reach.{Reach, seed, next}
use Rattle.sets.proofs.Sets.{lists_iff, made_unique}
use Rattle.files.specs.Field.{file, answer_word, pair}
use Rattle.files.specs.Part.{nodes, roots, running, whole_check}
use Rattle.files.specs.Path.{path_check}
use Rattle.files.proofs.Blocks.{roots_nodes, node_small}
use Rattle.files.proofs.Parts.{nodes_ascending, whole_part, whole_target}
use Rattle.expressions.specs.Expr.{Expr, count}
use Rattle.expressions.specs.Positions.{accepts}
use Rattle.expressions.specs.Labels.{expr_of}
use Rattle.expressions.proofs.Paths.{path_small}
use Rattle.walks.specs.Product.{step_in, answers}
use Rattle.walks.proofs.Product.{answers_lists}
use Rattle.old.specs.Old.{listed}
use Rattle.old.proofs.OldSearch.{root_pairs, listed_is}
use Rattle.demands.specs.Plant.{Plant, Found, FinalList, Holds, body}
use Rattle.demands.proofs.Comes.{Comes, begin, link, ComesTo, Ends, pair_comes, found_iff, found_reach, link_step}

-- there is one list of demand 2
pub final_unique : (p : Plant) (e : Expr) {ws vs : List ℕ} → FinalList p e ws → FinalList p e vs → ws ≡ vs
final_unique p e = made_unique (λ xs. file 15 0 0 (map answer_word xs))

pub roots_below : (f : List ℕ) (c : ℕ) → Mem c (root_pairs f) → c < 2 ^ 20
roots_below f c m =
    let (r, i, q) = Memᴰ.of_map (λ x. pair x 0) (roots (body f)) m in
    omega (arith, node_small (body f) r (roots_nodes (body f) r i))

-- in a file that holds the plant, each node of it with its links, what is come to is reached from the root
module _ (p : Plant) (f : List ℕ) (holds : Holds p f) (every : (x : ℕ) → p.Node x → Mem x (nodes (body f))) (e : Expr) (small : count e ≤ 15) where
  pub comes_reach : {x q : ℕ} → Comes p e x q → Reach (step_in (body f) e) (root_pairs f) (pair x q)
  comes_reach (begin {r = r} k) = seed (Memᴰ.map (λ x. pair x 0) (holds.has_root r (every r (p.root_node r k)) k))
  comes_reach (link {x = x} {t = t} c n l o s) = next (comes_reach c) (link_step p e small f holds t c (every x n.0) n l o s)

-- such a file that is a whole
module _ (p : Plant) (f : List ℕ) (whole : whole_check f ≡ 0) (holds : Holds p f) (every : (x : ℕ) → p.Node x → Mem x (nodes (body f))) where
  module _ (e : Expr) (small : count e ≤ 15) where
    root_comes : (c : ℕ) → Mem c (root_pairs f) → ComesTo p e c
    root_comes c m =
        let (r, i, q) = Memᴰ.of_map (λ x. pair x 0) (roots (body f)) m in
        subst (ComesTo p e) q ((pair_comes p e r 0 (omega arith)).1 (begin (holds.is_root_lem r i)))

    -- every edge of the file ends at a node
    ends : Ends p e f
    ends = record { node = λ x a y q t c n (w, m, i, j) s. holds.is_node_lem y (Memᴰ.cast (sym j) (whole_target f whole x w m)) }

    old_lists : Lists (Found p e) (answers (body f) e (root_pairs f))
    old_lists = lists_iff
        (λ x. (λ r. ((found x).0 r).1, λ r. (found x).1 (every x ((found_iff p e x).0 r).0.0, r)))
        (answers_lists (body f) e small (root_pairs f) (roots_below f) (nodes_ascending f (whole_part f whole)))
      where
        found : (x : ℕ) → (Mem x (running (body f)) × ((q : ℕ) × Reach (step_in (body f) e) (root_pairs f) (pair x q) × T (accepts e q)))
            ↔ (Mem x (nodes (body f)) × Found p e x)
        found x = found_reach p e small f holds ends (root_pairs f) x root_comes (λ n q. comes_reach p f holds every e small)

  -- the old search's list is demand 2's
  pub old_final : (path : List ℕ) → path_check path ≡ 0 → FinalList p (expr_of (drop 1 path)) (listed f path)
  old_final path ok = (answers (body f) (expr_of (drop 1 path)) (root_pairs f), old_lists (expr_of (drop 1 path)) (path_small path ok), listed_is f path)
