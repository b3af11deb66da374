-- How much a site sends: with D doors, T outside targets and n labels, the words of its first reply after the header hold at most
-- D × T × n × (n + 1) reach words. A header is none if the reply is within its limit. Assumes nothing.
use mathlib.Core.Path.{◌≡◌, ap}
use mathlib.Core.Bool.{Bool}
use mathlib.Core.List.Memᴰ
use mathlib.Core.List.{List, [], ◌∷◌, map, flatten}
use Prim.Native.Nat.{ℕ, suc, ◌*◌, ◌^◌, ◌≤◌, ◌<◌}
use native.Mathlib.Omega.{arith}
use native.Mathlib.Nat.{le_trans, le_of_eq}
use lib.ListN.{length, drop, get_or, length-map}
use Rattle.sets.specs.Sets.{Mem, filter}
use Rattle.sets.proofs.Sums.{at_most, flatten_by}
use Rattle.sets.proofs.Filter.{filter_length, by_passing}
use Rattle.files.specs.Field.{site_of, labels_of, node_of, root_of, file, door_word, reach_word}
use Rattle.files.specs.Part.{is_door, nodes, doors, outside}
use Rattle.files.specs.Path.{path_check}
use Rattle.files.specs.Reply.{is_reach}
use Rattle.files.proofs.Fields.{header, door, row, node_below, labels_below, site_below}
use Rattle.files.proofs.Blocks.{doors_nodes}
use Rattle.files.specs.Limits.{reply_words}
use Rattle.expressions.specs.Expr.{Expr, count}
use Rattle.expressions.specs.Labels.{expr_of}
use Rattle.expressions.proofs.Paths.{path_count, path_small}
use Rattle.walks.specs.Product.{positions}
use Rattle.walks.proofs.Product.{positions_length, states_iff}
use Rattle.first_replies.specs.FirstReply.{reported, row_words, door_words, first_reply}
use Rattle.first_replies.proofs.Reported.{reported_length}

row_reaches : (q : ℕ) → q < 16 → (cs : List ℕ) → length (filter is_reach (row_words q cs)) ≤ length cs
row_reaches q h [] = omega arith
row_reaches q h (c ∷ cs) = rw (row q h).kind_is (rw length-map at (filter_length is_reach (map reach_word (c ∷ cs))))

-- a door word and its rows, one for each of j states, each of at most k pairs
rows_reach : (x : ℕ) (root : Bool) → x < 2 ^ 16 → (f : ℕ → List ℕ) (qs : List ℕ) (j k : ℕ) → length qs ≡ j
    → ((q : ℕ) → Mem q qs → (q < 16) × (length (f q) ≤ k))
    → length (filter is_reach (door_word x root ∷ flatten (map (λ q. row_words q (f q)) qs))) ≤ j * k
rows_reach x root h f qs j k l each =
    rw (door x root h).kind_is (rw l at (flatten_by at_most (by_passing is_reach) (λ q. row_words q (f q)) k qs
    (λ q i. le_trans (row_reaches q (each q i).0 (f q)) (each q i).1)))

module _ (part : List ℕ) (e : Expr) (small : count e ≤ 15) where
  -- of each door all outside targets with all positions may be reported, from each state
  abbrev most : ℕ
  most = suc (count e) * (length (outside part) * count e)

  door_reaches : (w : ℕ) → Mem w (filter is_door part) → length (filter is_reach (door_words part e (count e) w)) ≤ most
  unfolding door_words
  door_reaches w m = rows_reach (node_of w) (root_of w) (node_below w) (λ q. reported part e (node_of w) q) (0 ∷ positions (count e))
      (suc (count e)) (length (outside part) * count e) (ap suc (positions_length (count e)))
      (λ q i. let h : q < 16 = omega (arith, (states_iff (count e) q).0 i) in (h, reported_length part e small (node_of w) q h node))
    where
      node : Mem (node_of w) (nodes part)
      node = doors_nodes part (node_of w) (Memᴰ.map node_of m)

  doors_reach : length (filter is_reach (flatten (map (door_words part e (count e)) (filter is_door part)))) ≤ length (filter is_door part) * most
  doors_reach = flatten_by at_most (by_passing is_reach) (door_words part e (count e)) most (filter is_door part) door_reaches

-- the header of a file within its limit is no reach word
header_no_reach : (site n : ℕ) (ws : List ℕ) → site < 16 → n < 16 → length (file 7 site n ws) ≤ reply_words
    → filter is_reach (file 7 site n ws) ≡ filter is_reach ws
header_no_reach site n ws h k l = rw (header 7 site n (suc (length ws)) (omega arith) h k (omega arith)).kind_is

module _ (part path : List ℕ) (ok : path_check path ≡ 0) where
  -- D × T × n × (n + 1)
  abbrev bound : ℕ
  bound = length (doors (drop 1 part)) * length (outside (drop 1 part)) * labels_of (get_or path 0 0) * suc (labels_of (get_or path 0 0))

  pub traffic : length (filter is_reach (drop 1 (first_reply part path))) ≤ bound
  unfolding first_reply
  traffic = le_trans
      (rw (path_count path ok) at (doors_reach (drop 1 part) (expr_of (drop 1 path)) (path_small path ok)))
      (rw (length-map (filter is_door (drop 1 part)) node_of) (omega arith))

  pub traffic_sent : length (first_reply part path) ≤ reply_words → length (filter is_reach (first_reply part path)) ≤ bound
  unfolding first_reply
  traffic_sent l =
      let e = header_no_reach (site_of (get_or part 0 0)) (labels_of (get_or path 0 0)) (drop 1 (first_reply part path))
      (site_below (get_or part 0 0)) (labels_below (get_or path 0 0)) l in
      le_trans (le_of_eq (ap length e)) traffic
