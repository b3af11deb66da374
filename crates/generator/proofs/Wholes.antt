-- Whatever the draws, and whatever the counts within their bounds: the file is a whole of at most 1 + nodes × (1 + edges) words; its nodes, root,
-- doors and edges. Assumes nothing.
use mathlib.Core.Path.{◌≡◌, refl, ◌∙◌, ap, subst}
use mathlib.Core.Bool.{Bool, false}
use mathlib.Core.List.Memᴰ
use mathlib.Core.List.{List, [], ◌∷◌, map}
use Prim.Native.Nat.{ℕ, zero, suc, ◌+◌, ◌*◌, ◌%◌, ◌^◌, ◌≤◌, ◌<◌}
use native.Mathlib.Omega.{arith}
use native.Mathlib.Nat.{mod-lt, le_trans, mul-le-mul_left, mul-le-mul_right}
use lib.Dec.{eqb}
use lib.ListN.{length, drop, get_or, length-map}
use borrow.Author.Tests.{ne_eqb}
use Rattle.sets.specs.Sets.{Mem, here, there, span, filter}
use Rattle.sets.proofs.Spans.{span_length, span_iff, span_ascending}
use Rattle.sets.proofs.Sums.{at_most, by_length, flatten_by}
use Rattle.sets.proofs.Lengths.{set_of_length}
use Rattle.sets.proofs.Sets.{set_of_lists}
use Rattle.sets.proofs.Tests.{eq_iff}
use Rattle.sets.proofs.Filter.{filter_none}
use Rattle.files.specs.Field.{kind_of, site_of, door_of, root_of, stopped_of, target_of}
use Rattle.files.specs.Limits.{part_words}
use Rattle.files.specs.Part.{whole_check, nodes, nodes_with, roots, doors, stopped, edges}
use Rattle.files.proofs.Fields.{Node, node, edge}
use Rattle.files.proofs.Compose.{composed, All, OneRoot, with_composed, nodes_composed, edges_composed, file_header, file_small, file_whole}
use Rattle.edge_draws.specs.Edges.{edge_drawn, edges_drawn}
use Rattle.edge_draws.specs.Bounds.{Within}
use Rattle.generator.specs.Generate.{node_at, node_drawn, generated}

module _ (d : ℕ → ℕ) {n e : ℕ} (c : Within n e) where
  -- the edges of node x
  abbrev links : ℕ → List ℕ
  links x = edges_drawn d n (x * e) e

  -- an edge's target is a node
  record Drew (w : ℕ) : Type 0 where
    pub kind_is : kind_of w ≡ 3
    pub target : target_of w < n
    pub word : w < 2 ^ 32

  edge_drew : (j : ℕ) → Drew (edge_drawn d n j)
  edge_drew j =
      let t : d (2 * j + 1) % n < n = mod-lt (d (2 * j + 1)) c.some in
      let f = edge (d (2 * j) % 4096) (d (2 * j + 1) % n) (mod-lt (d (2 * j)) (omega arith)) (omega (arith, t, c.few)) in
      record { kind_is = f.kind_is; target = omega (arith, f.target_is, t); word = f.word }

  links_drew : (x w : ℕ) → Mem w (links x) → Drew w
  links_drew x w m =
      let (j, i, q) = Memᴰ.of_map (edge_drawn d n) (span (x * e) e) ((set_of_lists (map (edge_drawn d n) (span (x * e) e))).sound w m) in
      subst Drew q (edge_drew j)

  named : (x : ℕ) → Mem x (span 0 n) → Node x (eqb x 0) (eqb x 0) false (node_at x)
  named x m = node x (eqb x 0) (eqb x 0) false (omega (arith, (span_iff 0 n x).0 m, c.few))

  -- node by node
  composes : All node_at links (span 0 n)
  composes x m =
      let f = named x m in
      record {
        kind_is = f.kind_is;
        zeros = f.zeros;
        node_is = f.node_is;
        door = λ t. rw f.door_is (rw f.root_is at t);
        word = f.word;
        rises = (set_of_lists (map (edge_drawn d n) (span (x * e) e))).ascending;
        links = λ w k. let l = links_drew x w k in record { kind_is = l.kind_is; word = l.word };
      }

  -- Its length

  node_length : (x : ℕ) → length (node_drawn d n e x) ≤ 1 + e
  node_length x =
      let ws = map (edge_drawn d n) (span (x * e) e) in
      omega (arith, set_of_length ws, length-map (span (x * e) e) (edge_drawn d n), span_length (x * e) e)

  pub generated_length : length (generated d n e) ≤ 1 + n * (1 + e)
  unfolding generated
  generated_length = omega (arith, rw (span_length 0 n) at (flatten_by at_most by_length (node_drawn d n e) (1 + e) (span 0 n) (λ x m. node_length x)))

  pub generated_fits : length (generated d n e) ≤ 1281
  generated_fits =
      let most : n * (1 + e) ≤ 256 * 5 = le_trans (mul-le-mul_left n (omega (arith, c.short))) (mul-le-mul_right 5 c.few) in
      omega (arith, generated_length)

  -- It is a whole

  short : length (composed node_at links (span 0 n)) < part_words
  unfolding generated
  short = omega (arith, generated_fits)

  pub generated_site : site_of (get_or (generated d n e) 0 0) ≡ 0
  unfolding generated
  generated_site = (file_header node_at links 0 (span 0 n) (omega arith) short composes).site_is

  pub generated_words : (w : ℕ) → Mem w (generated d n e) → w < 2 ^ 32
  unfolding generated
  generated_words = file_small node_at links 0 (span 0 n) (omega arith) short composes

  -- node 0 alone
  one_root : OneRoot node_at links false (span 0 n)
  one_root = record { none = λ s. absurd s; one = λ x y m k h t u. omega (arith, (eq_iff y 0).0 (rw (named y k).root_is at u)) }

  pub generated_whole : whole_check (generated d n e) ≡ 0
  unfolding generated
  generated_whole =
      file_whole node_at links 0 (span 0 n) (omega arith) short composes (span_ascending 0 n) one_root 0 ((span_iff 0 n 0).1 (omega (arith, c.some))) tt
      (λ x w m k. (span_iff 0 n (target_of w)).1 (omega (arith, (links_drew x w k).target)))

  -- Its nodes, marks and edges

  pub generated_nodes : nodes (drop 1 (generated d n e)) ≡ span 0 n
  unfolding generated
  generated_nodes = nodes_composed node_at links (span 0 n) composes

  marked : (mark : ℕ → Bool) → nodes_with mark (drop 1 (generated d n e)) ≡ filter (λ x. mark (node_at x)) (span 0 n)
  unfolding generated
  marked mark = with_composed node_at links mark (span 0 n) composes

  -- a test that node 0 passes alone
  alone : (k : ℕ) → 1 ≤ k → (p : ℕ → Bool) → ((x : ℕ) → Mem x (span 0 k) → p x ≡ eqb x 0) → filter p (span 0 k) ≡ 0 ∷ []
  alone zero h p f = absurd (omega arith)
  alone (suc k) h p f = rw (f 0 (here refl)) (ap (0 ∷◌) (filter_none p (span 1 k) (λ x m. f x (there m) ∙ ne_eqb x 0 (λ q. omega (arith, (span_iff 1 k x).0 m)))))

  pub generated_roots : roots (drop 1 (generated d n e)) ≡ 0 ∷ []
  generated_roots = marked root_of ∙ alone n c.some (λ x. root_of (node_at x)) (λ x m. (named x m).root_is)

  pub generated_doors : doors (drop 1 (generated d n e)) ≡ 0 ∷ []
  generated_doors = marked door_of ∙ alone n c.some (λ x. door_of (node_at x)) (λ x m. (named x m).door_is)

  pub generated_stopped : stopped (drop 1 (generated d n e)) ≡ []
  generated_stopped = marked stopped_of ∙ filter_none (λ x. stopped_of (node_at x)) (span 0 n) (λ x m. (named x m).stopped_is)

  pub generated_edges : (x : ℕ) → x < n → edges (drop 1 (generated d n e)) x ≡ links x
  unfolding generated
  generated_edges x h = edges_composed node_at links (span 0 n) composes x ((span_iff 0 n x).1 (omega arith))
