-- The dearest part: it is accepted; its words, nodes, doors, links and outside targets. Assumes nothing.
use mathlib.Core.Path.{◌≡◌, sym, subst, ◌∙◌}
use mathlib.Core.Bool.{Bool, true, false, not}
use mathlib.Core.List.Memᴰ
use mathlib.Core.List.{List, [], map}
use Prim.Native.Nat.{ℕ, ◌^◌, ◌<◌}
use native.Mathlib.Omega.{arith}
use lib.Dec.{T as Passes}
use lib.ListN.{length, get_or, drop}
use Rattle.sets.specs.Sets.{Mem, span, filter, set_of, member}
use Rattle.sets.proofs.Spans.{span_iff, span_ascending}
use Rattle.sets.proofs.Sets.{unique, map_ascending, filter_ascending, set_of_lists}
use Rattle.sets.proofs.Filter.{filter_all, filter_none}
use Rattle.files.specs.Field.{door_of, root_of, stopped_of, target_of, node_word, edge_word}
use Rattle.files.specs.Limits.{part_words}
use Rattle.files.specs.Part.{is_edge, part_check, nodes, nodes_with, roots, doors, stopped, edges, outside}
use Rattle.files.proofs.Fields.{Header, Node, node, Edge, edge}
use Rattle.files.proofs.Blocks.{edge_of, outside_iff}
use Rattle.files.proofs.Compose.{Link, composed, All, with_composed, nodes_composed, edges_composed, each_word, file_header, file_small, file_part}
use Rattle.dearest.specs.Dearest.{dear_part}
use Rattle.dearest.proofs.Accepted.{Counts, part_length}

pub link : (t : ℕ) → t < 65536 → Edge 0 t (edge_word 0 t)
link t h = edge 0 t (omega arith) h

abbrev word : ℕ → ℕ
word x = node_word x true false false

abbrev links : ℕ → ℕ → ℕ → List ℕ
links D T x = map (edge_word 0) (span D T)

module _ {D T n : ℕ} (c : Counts D T n) where
  pub small_target : (t : ℕ) → Mem t (span D T) → t < 65536
  small_target t m = omega (arith, (span_iff D T t).0 m, c.nodes)

  door : (x : ℕ) → Mem x (span 0 D) → Node x true false false (word x)
  door x m = node x true false false (omega (arith, (span_iff 0 D x).0 m, c.nodes))

  linked : (P : ℕ → Type 0) → ((t : ℕ) → Mem t (span D T) → Edge 0 t (edge_word 0 t) → P (edge_word 0 t)) → (w : ℕ) → Mem w (map (edge_word 0) (span D T)) → P w
  linked P f w m = let (t, i, e) = Memᴰ.of_map (edge_word 0) (span D T) m in subst P e (f t i (link t (small_target t i)))

  -- door by door
  doors_compose : All word (links D T) (span 0 D)
  doors_compose x m =
      let f = door x m in
      record {
        kind_is = f.kind_is;
        zeros = f.zeros;
        node_is = f.node_is;
        door = λ t. rw f.door_is tt;
        word = f.word;
        rises = map_ascending (edge_word 0) (span D T) (λ x y m k h. omega arith) (span_ascending D T);
        links = linked Link (λ t i e. record { kind_is = e.kind_is; word = e.word });
      }

  short : length (composed word (links D T) (span 0 D)) < part_words
  unfolding dear_part
  short = omega (arith, part_length D T, c.small)

  pub part_header : Header 1 0 0 (length (dear_part D T)) (get_or (dear_part D T) 0 0)
  unfolding dear_part
  part_header = file_header word (links D T) 0 (span 0 D) (omega arith) short doors_compose

  no_root : (x : ℕ) → Mem x (span 0 D) → Passes (root_of (word x)) → ⊥
  no_root x m t = rw (door x m).root_is at t

  pub part_accepted : part_check (dear_part D T) ≡ 0
  unfolding dear_part
  part_accepted = file_part word (links D T) 0 (span 0 D) (omega arith) short doors_compose (span_ascending 0 D) (record { none = λ s. no_root; one = λ x y m k h t u. no_root x m t })

  pub part_words_lem : (w : ℕ) → Mem w (dear_part D T) → w < 2 ^ 32
  unfolding dear_part
  part_words_lem = file_small word (links D T) 0 (span 0 D) (omega arith) short doors_compose

  -- a word behind the header is a door or a link
  words_are : (P : ℕ → Type 0) → ((x w : ℕ) → Node x true false false w → P w) → ((t w : ℕ) → Mem t (span D T) → Edge 0 t w → P w)
      → (w : ℕ) → Mem w (drop 1 (dear_part D T)) → P w
  unfolding dear_part
  words_are P f g = each_word word (links D T) P (span 0 D) (λ x m. f x (word x) (door x m)) (λ x w m k. linked P (λ t i e. g t (edge_word 0 t) i e) w k)

  pub part_nodes : nodes (drop 1 (dear_part D T)) ≡ span 0 D
  unfolding dear_part
  part_nodes = nodes_composed word (links D T) (span 0 D) doors_compose

  -- the nodes with a mark
  marked : (mark : ℕ → Bool) → nodes_with mark (drop 1 (dear_part D T)) ≡ filter (λ x. mark (word x)) (span 0 D)
  unfolding dear_part
  marked mark = with_composed word (links D T) mark (span 0 D) doors_compose

  pub part_doors : doors (drop 1 (dear_part D T)) ≡ span 0 D
  part_doors = marked door_of ∙ filter_all (λ x. door_of (word x)) (span 0 D) (λ x m. (door x m).door_is)

  pub part_roots : roots (drop 1 (dear_part D T)) ≡ []
  part_roots = marked root_of ∙ filter_none (λ x. root_of (word x)) (span 0 D) (λ x m. (door x m).root_is)

  pub part_stopped : stopped (drop 1 (dear_part D T)) ≡ []
  part_stopped = marked stopped_of ∙ filter_none (λ x. stopped_of (word x)) (span 0 D) (λ x m. (door x m).stopped_is)

  -- every door is linked to all targets
  pub part_links : (x : ℕ) → x < D → edges (drop 1 (dear_part D T)) x ≡ map (edge_word 0) (span D T)
  unfolding dear_part
  part_links x h = edges_composed word (links D T) (span 0 D) doors_compose x ((span_iff 0 D x).1 (omega arith))

  pub target_no_node : (t : ℕ) → Mem t (span D T) → Mem t (nodes (drop 1 (dear_part D T))) → ⊥
  target_no_node t m k = omega (arith, (span_iff D T t).0 m, (span_iff 0 D t).0 (rw part_nodes at k))

  pub part_outside : outside (drop 1 (dear_part D T)) ≡ span D T
  part_outside = unique (outside body) (span D T)
      (filter_ascending (λ t. not (member t (nodes body))) (set_of targets) (set_of_lists targets).ascending) (span_ascending D T) (to, from)
    where
      body : List ℕ
      body = drop 1 (dear_part D T)

      targets : List ℕ
      targets = map target_of (filter is_edge body)

      to : (t : ℕ) → Mem t (outside body) → Mem t (span D T)
      to t m =
          let ((w, k, i, q), n) = (outside_iff body t).0 m in
          Memᴰ.cast (sym q) (words_are (λ w. Passes (is_edge w) → Mem (target_of w) (span D T))
          (λ x w f e. absurd (rw f.kind_is at e)) (λ t w m f e. Memᴰ.cast f.target_is m) w k i)

      from : (t : ℕ) → Mem t (span D T) → Mem t (outside body)
      from t m =
          let (k, i, n) = edge_of body 0 (edge_word 0 t) (rw (part_links 0 c.doors) (Memᴰ.map (edge_word 0) m)) in
          (outside_iff body t).1 ((edge_word 0 t, k, i, (link t (small_target t m)).target_is), target_no_node t m)
