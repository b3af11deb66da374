-- A site's first reply, of an accepted part and path: it is an accepted file, with the part's doors and root, and its rows are what is
-- reported of the doors. Assumes nothing.
use mathlib.Core.Path.{◌≡◌, refl, sym, ◌∙◌, ap}
use mathlib.Core.Logic.Iff
use mathlib.Core.List.Memᴰ
use mathlib.Core.List.{List, ◌∷◌, map, map-map, flatten}
use Prim.Native.Nat.{ℕ, ◌^◌, ◌≤◌, ◌<◌}
use native.Mathlib.Omega.{arith}
use native.Mathlib.Decide.{dec_le}
use lib.ListN.{length, get_or, drop, length-map}
use Rattle.sets.specs.Sets.{Mem, filter, member}
use Rattle.sets.proofs.Tests.{same_test}
use Rattle.sets.proofs.Sets.{member_iff, lists_unique}
use Rattle.sets.proofs.Filter.{map_agree, map_filter_iff}
use Rattle.sets.proofs.Lengths.{ascending_distinct}
use Rattle.sets.proofs.Distinct.{distinct_map}
use Rattle.files.specs.Field.{site_of, labels_of, node_of, root_of, pair, file, door_word}
use Rattle.files.specs.Part.{is_door, part_check, doors as partDoors, roots as partRoots}
use Rattle.files.specs.Path.{path_check}
use Rattle.files.specs.Reply.{reply_check, doors, roots, rows}
use Rattle.files.proofs.Fields.{labels_below, site_below}
use Rattle.files.proofs.Blocks.{doors_nodes, node_small}
use Rattle.files.proofs.Parts.{doors_ascending, one_root, roots_of_doors}
use Rattle.files.proofs.Files.{Made, file_made}
use Rattle.files.specs.Limits.{reply_words}
use Rattle.expressions.specs.Expr.{Expr, count}
use Rattle.expressions.specs.Labels.{expr_of}
use Rattle.expressions.proofs.Paths.{path_count, path_small}
use Rattle.walks.specs.Product.{positions}
use Rattle.walks.proofs.Product.{states_iff, states_ascending}
use Rattle.first_replies.specs.FirstReply.{IsFirstReply, row_words, door_rows, reported, door_words, first_reply}
use Rattle.first_replies.proofs.Reported.{reported_is, reported_good, reported_none}
use Rattle.first_replies.proofs.Written.{Good, block, doors_read, written_words, doors_written, roots_written, rows_written, rows_above}

module _ (part path : List ℕ) (p : part_check part ≡ 0) (a : path_check path ≡ 0) where
  abbrev ws : List ℕ
  ws = drop 1 part

  abbrev ds : List ℕ
  ds = filter is_door ws

  abbrev e : Expr
  e = expr_of (drop 1 path)

  abbrev n : ℕ
  n = labels_of (get_or path 0 0)

  few : n < 16
  few = labels_below (get_or path 0 0)

  small : count e ≤ 15
  small = path_small path a

  good : (x q : ℕ) → x < 2 ^ 16 → q ≤ n → Good n (reported ws e x q)
  good x q h l = rw (path_count path a) at (reported_good ws e small x q h (omega (arith, path_count path a)))

  -- what it is
  first_is : first_reply part path ≡ file 7 (site_of (get_or part 0 0)) n (flatten (map (block (reported ws e) n) ds))
  unfolding first_reply door_words
  first_is = refl

  -- the check accepts it, for the path's n
  first_checked : (h : ℕ) → labels_of h ≡ n → reply_check h (drop 1 (first_reply part path)) ≡ 0
  first_checked h l = rw (l, first_is) (doors_read n few (reported ws e) good ds (doors_ascending part p)
      (rw (roots_of_doors part p, ← length-map _ node_of) (one_root part p)))

  -- a first reply is an accepted file, if it is not too long
  pub first_made : length (first_reply part path) ≤ reply_words → Made 7 (site_of (get_or part 0 0)) n reply_check (first_reply part path)
  first_made h = rw first_is (file_made 7 (site_of (get_or part 0 0)) n reply_check (flatten (map (block (reported ws e) n) ds)) (omega arith)
      (site_below (get_or part 0 0)) few (rw first_is at h) (written_words n few (reported ws e) good ds) (rw first_is at first_checked))

  -- a first reply's doors and roots are the part's
  pub first_doors : doors (drop 1 (first_reply part path)) ≡ partDoors ws
  first_doors = rw first_is (doors_written n few (reported ws e) good ds)

  pub first_roots : roots (drop 1 (first_reply part path)) ≡ partRoots ws
  first_roots = rw first_is (roots_written n few (reported ws e) good ds ∙ ap (map node_of) (roots_of_doors part p))

  -- a first reply's rows are what is reported of the doors
  pub first_rows : (x q : ℕ) → Mem x (partDoors ws) → q < 16 → rows (drop 1 (first_reply part path)) (pair x q) ≡ reported ws e x q
  first_rows x q m l =
      let k = Memᴰ.of_map node_of ds m in
      let d = ascending_distinct (partDoors ws) (doors_ascending part p) in
      rw (first_is, ← k.2) (elim (dec_le q n) [
        | yes h ↦ rows_written n few (reported ws e) good ds d k.0 q k.1 h
        | no h ↦ rows_above n few (reported ws e) good ds d k.0 q k.1 (omega arith) l
            ∙ sym (reported_none ws e small (node_of k.0) q l (doors_nodes ws (node_of k.0) (Memᴰ.map node_of k.1)) (omega (arith, path_count path a)))
      ])

  -- a door is marked as root where its node is one of the roots
  root_mark : (w : ℕ) → Mem w ds → root_of w ≡ member (node_of w) (partRoots ws)
  root_mark w m = same_test
      (λ t. (member_iff (node_of w) (partRoots ws)).1 (rw (← roots_of_doors part p) ((map_filter_iff node_of root_of (node_of w) ds).1 (w, m, t, refl))))
      (λ t. let (v, i, r, k) = (map_filter_iff node_of root_of (node_of w) ds).0 (rw (← roots_of_doors part p) at ((member_iff (node_of w) (partRoots ws)).0 t)) in
      rw (distinct_map node_of (ascending_distinct (partDoors ws) (doors_ascending part p)) i m k) at r)

  -- what is written is document 01's first reply
  pub first_reply_lem : IsFirstReply part path (first_reply part path)
  first_reply_lem = record {
    doors = partDoors ws;
    states = 0 ∷ positions n;
    pairs = reported ws e;
    each_door = record { ascending = doors_ascending part p; sound = λ x m. m; complete = λ x m. m };
    each_state = record { ascending = states_ascending n; sound = λ q m. (states_iff n q).0 m; complete = λ q h. (states_iff n q).1 h };
    each_row = λ x q d m. reported_is ws e small x q (node_small ws x (doors_nodes ws x d)) (omega (arith, few, (states_iff n q).0 m));
    is = first_is ∙ ap (λ bs. file 7 (site_of (get_or part 0 0)) n (flatten bs))
        (map_agree (block (reported ws e) n) (λ w. written (node_of w)) ds (λ w m. rw (root_mark w m)) ∙ sym (map-map written node_of ds));
  }
    where
      written : ℕ → List ℕ
      written x = door_rows ws (reported ws e x) (0 ∷ positions n) x

-- no other file is a first reply
pub first_unique : (part path f g : List ℕ) → IsFirstReply part path f → IsFirstReply part path g → f ≡ g
first_unique part path f g a b = a.is ∙ ap (λ bs. file 7 (site_of (get_or part 0 0)) (labels_of (get_or path 0 0)) (flatten bs)) blocks ∙ sym b.is
  where
    doors : a.doors ≡ b.doors
    doors = lists_unique a.each_door b.each_door (λ x. Iff.rfl)

    states : a.states ≡ b.states
    states = lists_unique a.each_state b.each_state (λ q. Iff.rfl)

    pairs : (x q : ℕ) → Mem x a.doors → Mem q a.states → a.pairs x q ≡ b.pairs x q
    pairs x q m k = lists_unique (a.each_row x q m k) (b.each_row x q (rw doors at m) (rw states at k)) (λ c. Iff.rfl)

    rows : (x : ℕ) → Mem x a.doors → door_rows (drop 1 part) (a.pairs x) a.states x ≡ door_rows (drop 1 part) (b.pairs x) b.states x
    rows x m = ap (λ rs. door_word x (member x (partRoots (drop 1 part))) ∷ flatten rs)
        (map_agree _ _ a.states (λ q k. ap (row_words q) (pairs x q m k)) ∙ ap (map (λ q. row_words q (b.pairs x q))) states)

    blocks : map (λ x. door_rows (drop 1 part) (a.pairs x) a.states x) a.doors ≡ map (λ x. door_rows (drop 1 part) (b.pairs x) b.states x) b.doors
    blocks = map_agree _ _ a.doors rows ∙ ap (map (λ x. door_rows (drop 1 part) (b.pairs x) b.states x)) doors
