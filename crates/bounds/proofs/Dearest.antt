-- Document 02, request 13: the dearest part and path have the longest first reply. Assumes nothing.
use mathlib.Core.Path.{◌≡◌, sym, ap, subst, ◌∙◌}
use mathlib.Core.List.Memᴰ
use mathlib.Core.List.{List, map, flatten}
use Prim.Native.Nat.{ℕ, ◌+◌, ◌*◌, ◌≤◌, ◌<◌}
use native.Mathlib.Omega.{arith}
use native.Mathlib.Nat.{le_antisymm, one-le-mul}
use lib.Dec.{T as Passes}
use lib.ListN.{length, drop, length-map}
use Rattle.sets.specs.Sets.{Mem, Distinct, ◌⊆◌, span}
use Rattle.sets.proofs.Spans.{span_length, span_iff, span_ascending}
use Rattle.sets.proofs.Sums.{at_least, by_length, flatten_by}
use Rattle.sets.proofs.Sets.{flatten_map_iff, map_ascending}
use Rattle.sets.proofs.Lengths.{pigeonhole, ascending_distinct}
use Rattle.sets.proofs.Distinct.{distinct_flatten}
use Rattle.files.specs.Word.{bytes_of}
use Rattle.files.specs.Field.{target_of, edge_word, pair, pair_node, pair_state}
use Rattle.files.specs.Limits.{reply_words}
use Rattle.files.specs.Outcome.{outcome}
use Rattle.files.specs.Part.{stopped, edges}
use Rattle.files.proofs.Checks.{outcome_gives, outcome_over}
use Rattle.files.proofs.Fields.{pair_node_lem, pair_state_lem}
use Rattle.files.proofs.Blocks.{running_iff}
use Rattle.expressions.specs.Expr.{Expr}
use Rattle.expressions.specs.Labels.{expr_of, holds}
use Rattle.expressions.specs.Positions.{step}
use Rattle.walks.specs.Product.{Walk, stay, go, positions}
use Rattle.walks.proofs.Product.{positions_iff, positions_length, states_ascending}
use Rattle.first_replies.specs.FirstReply.{Reported, IsFirstReply, first_reply}
use Rattle.first_replies.proofs.FirstReplies.{first_reply_lem}
use Rattle.site_first.specs.First.{first_reply_call}
use Rattle.site_first.proofs.FirstCalls.{first_outcome_lem}
use Rattle.dearest.specs.Dearest.{dear_part, dear_path}
use Rattle.dearest.proofs.Accepted.{Counts, counts_iff, part_length, path_fits}
use Rattle.bounds.specs.Longest.{longest, PartOf, PathOf, Dearest, Request13}
use Rattle.bounds.proofs.Bound.{row_least, reply_by_lem, bound}
use Rattle.bounds.proofs.DearPart.{link, small_target, part_header, part_accepted, part_words_lem, part_nodes, part_doors, part_roots, part_stopped, part_links, target_no_node, part_outside}
use Rattle.bounds.proofs.DearPath.{path_accepted, path_words_lem, path_labels, path_steps}

-- Every target with every position

abbrev row_of : ℕ → ℕ → List ℕ
row_of n t = map (pair t) (positions n)

abbrev all_pairs : ℕ → ℕ → ℕ → List ℕ
all_pairs D T n = flatten (map (row_of n) (span D T))

module _ {D T n : ℕ} (c : Counts D T n) where
  pairs_many : T * n ≤ length (all_pairs D T n)
  pairs_many = subst (λ k. k * n ≤ length (all_pairs D T n)) (span_length D T)
      (flatten_by at_least by_length (row_of n) n (span D T) (λ t m. omega (arith, length-map (positions n) (pair t), positions_length n)))

  pair_in : (t d : ℕ) → Mem d (row_of n t) → (p : ℕ) × (1 ≤ p) × (p ≤ n) × (pair t p ≡ d)
  pair_in t d m = let (p, i, e) = Memᴰ.of_map (pair t) (positions n) m in let h = (positions_iff n p).0 i in (p, h.0, h.1, e)

  pairs_distinct : Distinct (all_pairs D T n)
  pairs_distinct = distinct_flatten (λ t. t) (row_of n) (span D T)
      (ascending_distinct (map (λ t. t) (span D T)) (map_ascending (λ t. t) (span D T) (λ x y m k h. h) (span_ascending D T)))
      (λ t m. ascending_distinct (row_of n t) (map_ascending (pair t) (positions n) (λ x y i j h. omega arith) (states_ascending n).1))
      (λ t u d m k i j. let a = pair_in t d i in let b = pair_in u d j in omega (arith, a.2, b.2, a.3, b.3))

  -- Each of them is reported of each door in each state

  abbrev body : List ℕ
  body = drop 1 (dear_part D T)

  abbrev e : Expr
  e = expr_of (drop 1 (dear_path n))

  none_stopped : (x : ℕ) → Mem x (stopped body) → ⊥
  none_stopped x m = elim (rw (part_stopped c) at m) [ ]

  walk : (x q t p : ℕ) → x < D → q ≤ n → Mem t (span D T) → 1 ≤ p → p ≤ n → Walk body e x q t p
  walk x q t p h k m a b =
      let f = link t (small_target c t m) in
      let running = (running_iff body x).1 (rw (part_nodes c) ((span_iff 0 D x).1 (omega arith)), none_stopped x) in
      let linked : Mem (edge_word 0 t) (edges body x) = rw (part_links c x h) (Memᴰ.map (edge_word 0) m) in
      let steps = subst (λ a. Passes (step holds e q a p)) (sym f.label_is) (path_steps c q p k a b) in
      let ends : Walk body e (target_of (edge_word 0 t)) p t p = rw f.target_is (stay (none_stopped t)) in
      go (edge_word 0 t) running linked steps ends

  -- What the two files are

  part_of : PartOf D T (dear_part D T)
  part_of = record {
    checked = part_accepted c;
    doors_are = ap length (part_doors c) ∙ span_length 0 D;
    outside_are = ap length (part_outside c) ∙ span_length D T;
  }

  path_of : PathOf n (dear_path n)
  path_of = record { checked = path_accepted c; labels_are = path_labels c }

  -- How long their first reply is

  module _ {f : List ℕ} (r : IsFirstReply (dear_part D T) (dear_path n) f) where
    row_all : (x q : ℕ) → Mem x r.doors → Mem q r.states → all_pairs D T n ⊆ r.pairs x q
    row_all x q m i d j =
        let (t, k, l) = (flatten_map_iff (row_of n) d (span D T)).0 j in
        let (p, a, b, s) = pair_in t d l in
        let node : x < D = omega (arith, (span_iff 0 D x).0 (rw (part_doors c) at (r.each_door.sound x m))) in
        let state : q ≤ n = rw (path_labels c) at (r.each_state.sound q i) in
        let told : Reported body e x q (pair_node (pair t p)) (pair_state (pair t p)) =
        rw (pair_node_lem t p (omega arith), pair_state_lem t p (omega arith)) (walk x q t p node state k a b, target_no_node c t k) in
        subst (λ d. Mem d (r.pairs x q)) s ((r.each_row x q m i).complete (pair t p) told)

    row_long : (x q : ℕ) → Mem x r.doors → Mem q r.states → T * n ≤ length (r.pairs x q)
    row_long x q m i = omega (arith, pairs_many, pigeonhole (all_pairs D T n) (r.pairs x q) pairs_distinct (row_all x q m i))

    reply_long : longest D T n ≤ length f
    reply_long = omega (
      arith,
      reply_by_lem part_of path_of r at_least (1 + T * n)
          (λ x q m i. row_least q (r.pairs x q) (T * n) (one-le-mul c.targets c.labels) (row_long x q m i)),
    )

    reply_length : length f ≡ longest D T n
    reply_length = le_antisymm (bound.plain (dear_part D T) (dear_path n) f part_of path_of r) reply_long

  -- What the call gives

  abbrev reply : List ℕ
  reply = first_reply (dear_part D T) (dear_path n)

  is_reply : IsFirstReply (dear_part D T) (dear_path n) reply
  is_reply = first_reply_lem (dear_part D T) (dear_path n) (part_accepted c) (path_accepted c)

  called : (out work : ℕ) → 16384 ≤ out → 32768 ≤ work
      → first_reply_call out work (bytes_of (dear_part D T)) (bytes_of (dear_path n)) ≡ outcome 0 reply_words reply
  called out work h k = first_outcome_lem out work (dear_part D T) (dear_path n) h k (part_words_lem c) (omega (arith, part_length D T)) (part_accepted c)
      (path_words_lem c) (omega (arith, path_fits n c.labels)) (path_accepted c)

  dearest : Dearest D T n
  dearest = record {
    part_of = part_of;
    path_of = path_of;
    site = (part_header c).site_is;
    no_root = part_roots c;
    all_nodes = part_nodes c;
    all_doors = part_doors c;
    all_links = part_links c;
    all_outside = part_outside c;
    reply = reply;
    is_reply = is_reply;
    owed = λ f r. reply_length r;
    given = λ out work h k l. called out work h k ∙ outcome_gives reply_words reply (omega (arith, reply_length is_reply));
    over = λ out work h k l. called out work h k ∙ outcome_over reply_words reply (omega (arith, reply_length is_reply));
  }

pub request_13 : Request13
request_13 = record { dearest = λ D T n h. dearest ((counts_iff D T n).0 h); bound = bound }
