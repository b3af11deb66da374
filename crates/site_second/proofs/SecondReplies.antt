-- A site's second reply, of an accepted part: it is an accepted file, no longer than the part, and its answers are nodes of the part,
-- ascending. Assumes nothing.
use mathlib.Core.Path.{◌≡◌, refl}
use mathlib.Core.List.Memᴰ
use mathlib.Core.List.{List, map}
use Prim.Native.Nat.{ℕ, ◌^◌, ◌≤◌, ◌<◌}
use native.Mathlib.Omega.{arith}
use lib.Dec.{T}
use lib.ListN.{length, get_or, drop, length-map, length-drop}
use Rattle.sets.specs.Sets.{Mem, Ascending, Lists, ◌⊆◌}
use Rattle.sets.specs.Reach.{Reach, seed}
use Rattle.sets.proofs.Sets.{lists_iff, made_unique}
use Rattle.files.specs.Field.{site_of, labels_of, pair, pair_of, pair_node, pair_state, file, answer_word}
use Rattle.files.specs.Part.{nodes, stopped, running, part_check}
use Rattle.files.specs.Path.{path_check}
use Rattle.files.specs.Answers.{answers_of, answers_check}
use Rattle.files.proofs.Fields.{answer, labels_below, site_below, pair_node_lem, pair_state_lem, pair_eta}
use Rattle.files.proofs.Blocks.{node_small, running_iff}
use Rattle.files.proofs.Parts.{part_some, nodes_ascending}
use Rattle.files.proofs.Ordered.{answers_accepted, answers_read}
use Rattle.files.proofs.Files.{Made, file_made}
use Rattle.files.specs.Limits.{part_words}
use Rattle.expressions.specs.Expr.{Expr, count}
use Rattle.expressions.specs.Positions.{accepts}
use Rattle.expressions.specs.Labels.{expr_of}
use Rattle.expressions.proofs.Paths.{path_small}
use Rattle.walks.specs.Product.{Walk, step_in, answers}
use Rattle.walks.proofs.Product.{accepts_small, walk_end, walk_reach, reach_walk, answers_lists, answers_nodes, answers_ascending, answers_length}
pub use Rattle.site_calls.proofs.Calling.{called_iff}
use Rattle.site_second.specs.Second.{IsSecondReply, called_in, second_reply}

-- the nodes that the reply lists
abbrev pub found : List ℕ → List ℕ → List ℕ → List ℕ
found part path calls = answers (drop 1 part) (expr_of (drop 1 path)) (called_in (drop 1 part) (drop 1 calls))

pub second_is : (part path calls : List ℕ)
    → second_reply part path calls ≡ file 13 (site_of (get_or part 0 0)) (labels_of (get_or path 0 0)) (map answer_word (found part path calls))
unfolding second_reply
second_is part path calls = refl

module _ (part path calls : List ℕ) (p : part_check part ≡ 0) where
  abbrev xs : List ℕ
  xs = found part path calls

  pub found_nodes : found part path calls ⊆ nodes (drop 1 part)
  found_nodes = answers_nodes (drop 1 part) (expr_of (drop 1 path)) (called_in (drop 1 part) (drop 1 calls))

  pub found_ascending : Ascending (found part path calls)
  found_ascending = answers_ascending (drop 1 part) (expr_of (drop 1 path)) (called_in (drop 1 part) (drop 1 calls)) (nodes_ascending part p)

  found_below : (x : ℕ) → Mem x xs → x < 2 ^ 16
  found_below x m = node_small (drop 1 part) x (found_nodes x m)

  -- the reply's answers are the nodes found
  pub second_answers : answers_of (drop 1 (second_reply part path calls)) ≡ found part path calls
  second_answers = rw (second_is part path calls) (answers_read xs found_below)

  -- a reply is never longer than the part
  pub second_length : length (second_reply part path calls) ≤ length part
  second_length = rw (second_is part path calls) (omega (
    arith,
    part_some part p,
    length-map xs answer_word,
    length-drop 1 part,
    answers_length (drop 1 part) (expr_of (drop 1 path)) (called_in (drop 1 part) (drop 1 calls)),
  ))

  -- a reply is an accepted file
  pub second_made : length part ≤ part_words → Made 13 (site_of (get_or part 0 0)) (labels_of (get_or path 0 0)) answers_check (second_reply part path calls)
  second_made h =
      let l = rw (second_is part path calls) at second_length in
      rw (second_is part path calls) (file_made 13 (site_of (get_or part 0 0)) (labels_of (get_or path 0 0)) answers_check (map answer_word xs) (omega arith)
      (site_below (get_or part 0 0)) (labels_below (get_or path 0 0)) (omega arith)
      (λ w m. let r = Memᴰ.of_map answer_word xs m in rw (← r.2) (answer r.0 (found_below r.0 r.1)).word)
      (λ h k. answers_accepted h xs found_ascending found_below))

  -- what is written is document 01's second reply
  pub second_reply_lem : path_check path ≡ 0 → IsSecondReply part path calls (second_reply part path calls)
  second_reply_lem a = (
    xs,
    lists_iff (λ x. let i = running_iff (drop 1 part) x in (
      λ r. ((i.0 r.0).0, to x r.1 (i.0 r.0).1),
      λ (n, h). let (c, q, m, k, w, t) = h in (i.1 (n, walk_end w), from x h),
    )) all,
    second_is part path calls,
  )
    where
      e : Expr
      e = expr_of (drop 1 path)

      seeds : List ℕ
      seeds = called_in (drop 1 part) (drop 1 calls)

      small : count e ≤ 15
      small = path_small path a

      all : Lists (λ x. Mem x (running (drop 1 part)) × ((q : ℕ) × Reach (step_in (drop 1 part) e) seeds (pair x q) × T (accepts e q))) xs
      all = answers_lists (drop 1 part) e small seeds
          (λ c m. omega (arith, node_small (drop 1 part) (pair_node c) ((called_iff (drop 1 part) (drop 1 calls) c).0 m).1)) (nodes_ascending part p)

      Hit : ℕ → Type 0
      Hit x = (c : ℕ) × (q : ℕ) × Mem c (map pair_of (drop 1 calls)) × Mem (pair_node c) (nodes (drop 1 part))
          × Walk (drop 1 part) e (pair_node c) (pair_state c) x q × T (accepts e q)

      to : (x : ℕ) → ((q : ℕ) × Reach (step_in (drop 1 part) e) seeds (pair x q) × T (accepts e q)) → (Mem x (stopped (drop 1 part)) → ⊥) → Hit x
      to x (q, r, t) a =
          let h : q < 16 = omega (arith, small, accepts_small e q t) in
          let (c, m, w) = reach_walk (drop 1 part) e small seeds (pair x q) r (rw (pair_node_lem x q h) a) in
          let i = (called_iff (drop 1 part) (drop 1 calls) c).0 m in
          (c, q, i.0, i.1, rw (pair_node_lem x q h, pair_state_lem x q h) at w, t)

      from : (x : ℕ) → Hit x → (q : ℕ) × Reach (step_in (drop 1 part) e) seeds (pair x q) × T (accepts e q)
      from x (c, q, m, n, w, t) =
          (q, walk_reach (drop 1 part) e small seeds (omega arith) w (rw (pair_eta c) (seed ((called_iff (drop 1 part) (drop 1 calls) c).1 (m, n)))), t)

-- there is one second reply
pub second_unique : (part path calls : List ℕ) {f g : List ℕ} → IsSecondReply part path calls f → IsSecondReply part path calls g → f ≡ g
second_unique part path calls = made_unique (λ xs. file 13 (site_of (get_or part 0 0)) (labels_of (get_or path 0 0)) (map answer_word xs))
