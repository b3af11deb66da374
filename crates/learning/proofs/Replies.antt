-- What a hub may learn (document 02, request 12): alike parts give the same replies, number included. Proved of the calls with groups, as those
-- without are the same with our eight words. Assumes nothing.
use mathlib.Core.Path.{◌≡◌, refl, sym, ap, ap₂, subst, ◌∙◌}
use mathlib.Core.Logic.{◌↔◌}
use mathlib.Core.Bool.{true, false, not}
use mathlib.Core.List.Memᴰ
use mathlib.Core.List.{List, [], ◌∷◌, map, flatten}
use Prim.Native.Nat.{ℕ, zero, suc, ◌^◌, ◌≤◌, ◌<◌}
use native.Mathlib.Omega.{arith}
use lib.Dec.{T, eqb}
use lib.ListN.{length, get_or, drop, replicate}
use Rattle.sets.specs.Sets.{Mem, filter, member, any}
use Rattle.sets.specs.Reach.{Reach, seed}
use Rattle.sets.proofs.Tests.{same_test}
use Rattle.sets.proofs.Sets.{member_iff, lists_unique}
use Rattle.sets.proofs.Filter.{filter_agree, map_agree}
use Rattle.files.specs.Word.{words, bytes_of}
use Rattle.files.specs.Field.{kind_of, labels_of, node_of, root_of, file, door_word, pair, pair_of, pair_node, answer_word}
use Rattle.files.specs.Refuse.{◌then◌, ◌unless◌, room_check, size_check, header_check}
use Rattle.files.specs.Limits.{path_words, reply_words}
use Rattle.files.specs.Outcome.{outcome}
use Rattle.files.specs.Part.{is_door, nodes, doors, running, part_check}
use Rattle.files.specs.Path.{path_check}
use Rattle.files.specs.Groups.{groups_check, our_groups}
use Rattle.files.specs.Calls.{call_check, calls_check}
use Rattle.files.proofs.Checks.{then_iff, checks}
use Rattle.files.proofs.Fields.{pair_node_lem}
use Rattle.files.proofs.Blocks.{doors_nodes, node_small}
use Rattle.files.proofs.Parts.{nodes_ascending}
use Rattle.files.proofs.Ordered.{ordered_iff}
use Rattle.expressions.specs.Expr.{Expr, count}
use Rattle.expressions.specs.Positions.{accepts}
use Rattle.expressions.specs.Labels.{expr_of}
use Rattle.expressions.proofs.Paths.{path_count, path_small}
use Rattle.walks.specs.Product.{positions, step_in, answers}
use Rattle.walks.proofs.Product.{states_iff, accepts_small, answers_lists}
use Rattle.first_replies.specs.FirstReply.{reported, row_words, door_words, first_reply}
use Rattle.first_replies.proofs.Reported.{reported_lists}
use Rattle.site_first.specs.First.{first_reply_grouped_call}
use Rattle.site_first.proofs.FirstCalls.{first_ours}
use Rattle.path_bundles.specs.Split.{split, split_check}
use Rattle.path_bundles.specs.Packed.{leaves_several}
use Rattle.visits.specs.Whole.{shortest}
use Rattle.visits.specs.Visit.{visit}
use Rattle.four_replies.specs.Four.{visit_paths, four_replies_grouped, four_replies_call, four_replies_grouped_call}
use Rattle.four_replies.proofs.Visits.{four_ours}
use Rattle.choices.specs.Shared.{leaves_shared}
use Rattle.eight_replies.specs.Eight.{desk_count, eight_replies_grouped, eight_replies_call, eight_replies_grouped_call}
use Rattle.eight_replies.proofs.Eights.{eight_ours}
use Rattle.site_second.specs.Second.{called_in, against_check, second_reply, second_reply_grouped_call}
use Rattle.site_second.proofs.SecondReplies.{called_iff, second_is}
use Rattle.site_second.proofs.SecondCalls.{second_ours}
use Rattle.demands.specs.Grouped.{Groups, ours, own, asks, first_call, second_call}
use Rattle.demands.proofs.Grouping.{asks_checked}
use Rattle.learning.specs.Learning.{Reached, Alike, TwoParts, NamesReached, Learning}
use Rattle.learning.proofs.Alike.{reached_node, alike_sym, same_reached, same_node, same_running, same_doors}

-- Outcomes: the checks after one, and the result, matter only where its number is 0

after : (a b b' limit : ℕ) (r r' : List ℕ) → (a ≡ 0 → outcome b limit r ≡ outcome b' limit r') → outcome (a then b) limit r ≡ outcome (a then b') limit r'
after zero b b' limit r r' h = h refl
after (suc a) b b' limit r r' h = refl

last : (k limit : ℕ) (r r' : List ℕ) → (k ≡ 0 → r ≡ r') → outcome k limit r ≡ outcome k limit r'
last zero limit r r' h = ap (outcome 0 limit) (h refl)
last (suc k) limit r r' h = refl

-- The first reply, by words

module _ (f g : List ℕ) (s : Alike f g) (e : Expr) (small : count e ≤ 15) where
  reported_same : (x q : ℕ) → q ≤ count e → Mem x (doors (drop 1 f)) → reported (drop 1 f) e x q ≡ reported (drop 1 g) e x q
  reported_same x q h m = lists_unique (reported_lists (drop 1 f) e small x q below) (reported_lists (drop 1 g) e small x q below) (λ c.
      let i = same_reached f g s e small from start c in
      let n = same_node f g s e small from start c in (
        λ (r, out). (i.0 r, λ k. out ((n r).1 k)),
        λ (r, out). (i.1 r, λ k. out ((n (i.1 r)).0 k)),
      ))
    where
      from : List ℕ
      from = pair x q ∷ []

      below : pair x q < 2 ^ 20
      below = omega (arith, node_small (drop 1 f) x (doors_nodes (drop 1 f) x m))

      start : (c : ℕ) → Mem c from → Reached (drop 1 f) (pair_node c)
      start c i = subst (Reached (drop 1 f)) (sym (ap pair_node (Memᴰ.eq_of_singleton i) ∙ pair_node_lem x q (omega arith))) (seed m)

  door_same : (n w : ℕ) → count e ≡ n → Mem w (filter is_door (drop 1 f)) → door_words (drop 1 f) e n w ≡ door_words (drop 1 g) e n w
  unfolding door_words
  door_same n w h m = ap (λ rows. door_word (node_of w) (root_of w) ∷ flatten rows)
      (map_agree (λ q. row_words q (reported (drop 1 f) e (node_of w) q)) (λ q. row_words q (reported (drop 1 g) e (node_of w) q)) (0 ∷ positions n)
      (λ q i. ap (row_words q) (reported_same (node_of w) q (omega (arith, (states_iff n q).0 i)) (Memᴰ.map node_of m))))

first_same : (f g path : List ℕ) → part_check f ≡ 0 → part_check g ≡ 0 → Alike f g → path_check path ≡ 0 → first_reply f path ≡ first_reply g path
unfolding first_reply
first_same f g path a b s read =
    let n = labels_of (get_or path 0 0) in
    let by : List ℕ → ℕ → List ℕ = λ part. door_words (drop 1 part) (expr_of (drop 1 path)) n in
    ap₂ (λ site blocks. file 7 site n (flatten blocks)) s.site
    (map_agree (by f) (by g) (filter is_door (drop 1 f)) (λ w. door_same f g s (expr_of (drop 1 path)) (path_small path read) n w (path_count path read))
    ∙ ap (map (by g)) (same_doors f g a b s))

-- The second reply, by words

-- a call list that is read has only call words
call_kinds : (calls : List ℕ) → calls_check calls ≡ 0 → (w : ℕ) → Mem w (drop 1 calls) → kind_of w ≡ 12
call_kinds [] ok w m = elim m [ ]
call_kinds (h ∷ ws) ok w m =
    let (k, r) = (then_iff (header_check 11 false true (suc (length ws)) h) _).0 ok in
    let c = simp checks at (((ordered_iff (call_check (labels_of h)) 0 ws).0 r).1 w m) in
    c.0.0

-- a pair that is called at a node of the part: the node is reached, so it is one of the other part's
module _ (f calls : List ℕ) (ok : calls_check calls ≡ 0) (names : NamesReached f calls) where
  called_reached : (c : ℕ) → Mem c (map pair_of (drop 1 calls)) → Mem (pair_node c) (nodes (drop 1 f)) → Reached (drop 1 f) (pair_node c)
  called_reached c m n =
      let (w, k, q) = Memᴰ.of_map pair_of (drop 1 calls) m in
      subst (λ c. Reached (drop 1 f) (pair_node c)) q (names w k (call_kinds calls ok w k) (subst (λ c. Mem (pair_node c) (nodes (drop 1 f))) (sym q) n))

  called_on : (g : List ℕ) → Alike f g → (c : ℕ) → Mem c (map pair_of (drop 1 calls))
      → T (member (pair_node c) (nodes (drop 1 f))) → T (member (pair_node c) (nodes (drop 1 g)))
  called_on g s c m t = (member_iff (pair_node c) (nodes (drop 1 g))).1 (reached_node (drop 1 g) (pair_node c)
      ((s.reached (pair_node c)).0 (called_reached c m ((member_iff (pair_node c) (nodes (drop 1 f))).0 t))))

module _ (f g calls : List ℕ) (a : part_check f ≡ 0) (b : part_check g ≡ 0) (s : Alike f g)
    (ok : calls_check calls ≡ 0) (i : NamesReached f calls) (j : NamesReached g calls) where
  called_same : called_in (drop 1 f) (drop 1 calls) ≡ called_in (drop 1 g) (drop 1 calls)
  called_same = filter_agree (λ c. member (pair_node c) (nodes (drop 1 f))) (λ c. member (pair_node c) (nodes (drop 1 g))) (map pair_of (drop 1 calls))
      (λ c m. same_test (called_on f calls ok i g s c m) (called_on g calls ok j f (alike_sym s) c m))

  against_same : (path : List ℕ) → against_check f path calls ≡ against_check g path calls
  against_same path = ap₂ (λ ds cs. 12 unless eqb (labels_of (get_or calls 0 0)) (labels_of (get_or path 0 0)) then 14 unless not (any (λ c. not (member (pair_node c) (map node_of ds))) cs))
      (same_doors f g a b s) called_same

  abbrev seeds : List ℕ
  seeds = called_in (drop 1 f) (drop 1 calls)

  below : (c : ℕ) → Mem c seeds → c < 2 ^ 20
  below c m = omega (arith, node_small (drop 1 f) (pair_node c) ((called_iff (drop 1 f) (drop 1 calls) c).0 m).1)

  start : (c : ℕ) → Mem c seeds → Reached (drop 1 f) (pair_node c)
  start c m = let (k, n) = (called_iff (drop 1 f) (drop 1 calls) c).0 m in called_reached f calls ok i c k n

  answers_same : (e : Expr) → count e ≤ 15 → answers (drop 1 f) e seeds ≡ answers (drop 1 g) e seeds
  answers_same e small = lists_unique
      (answers_lists (drop 1 f) e small seeds below (nodes_ascending f a)) (answers_lists (drop 1 g) e small seeds below (nodes_ascending g b)) (λ x. (
        λ (n, (q, r, t)). ((at x q t r).0 n, (q, (walks (pair x q)).0 r, t)),
        λ (n, (q, r, t)). let r = (walks (pair x q)).1 r in ((at x q t r).1 n, (q, r, t)),
      ))
    where
      walks : (c : ℕ) → Reach (step_in (drop 1 f) e) seeds c ↔ Reach (step_in (drop 1 g) e) seeds c
      walks = same_reached f g s e small seeds start

      at : (x q : ℕ) → T (accepts e q) → Reach (step_in (drop 1 f) e) seeds (pair x q) → Mem x (running (drop 1 f)) ↔ Mem x (running (drop 1 g))
      at x q t r = rw (pair_node_lem x q (omega (arith, accepts_small e q t))) at (same_running f g s e small seeds start (pair x q) r)

  second_same : (path : List ℕ) → path_check path ≡ 0 → second_reply f path calls ≡ second_reply g path calls
  second_same path read =
      let e = expr_of (drop 1 path) in
      second_is f path calls
      ∙ ap₂ (λ site xs. file 13 site (labels_of (get_or path 0 0)) (map answer_word xs)) s.site (answers_same e (path_small path read) ∙ ap (answers (drop 1 g) e) called_same)
      ∙ sym (second_is g path calls)

-- The calls

module _ (part part' : List ℕ) (t : TwoParts part part') where
  first_grouped : (groups path : List ℕ) (out work : ℕ) → first_reply_grouped_call out work part groups path ≡ first_reply_grouped_call out work part' groups path
  unfolding first_reply_grouped_call
  first_grouped groups path out work = rw (t.sized, t.sized', t.read, t.read')
      (after (room_check reply_words out work) _ _ reply_words _ _ (λ z. after (groups_check groups) _ _ reply_words _ _ (λ g. after (size_check path_words path) _ _ reply_words _ _ (λ z.
      last (path_check (words path)) reply_words _ _ (λ c.
      first_same (words part) (words part') (asks (own groups) (words path)) t.read t.read' t.alike (asks_checked (own groups) (words path) g c))))))

  second_grouped : (groups path calls : List ℕ) → NamesReached (words part) (words calls) → NamesReached (words part') (words calls)
      → (out work : ℕ) → second_reply_grouped_call out work part groups path calls ≡ second_reply_grouped_call out work part' groups path calls
  unfolding second_reply_grouped_call
  second_grouped groups path calls i j out work = rw (t.sized, t.sized', t.read, t.read')
      (after (room_check reply_words out work) _ _ reply_words _ _ (λ z. after (groups_check groups) _ _ reply_words _ _ (λ g. after (size_check path_words path) _ _ reply_words _ _ (λ z.
      after (path_check (words path)) _ _ reply_words _ _ (λ c. after (size_check reply_words calls) _ _ reply_words _ _ (λ z. after (calls_check (words calls)) _ _ reply_words _ _ (λ ok.
      ap₂ (λ k r. outcome k reply_words r)
      (against_same (words part) (words part') (words calls) t.read t.read' t.alike ok i j (words path))
      (second_same (words part) (words part') (words calls) t.read t.read' t.alike ok i j (asks (own groups) (words path)) (asks_checked (own groups) (words path) g c)))))))))

  first_either : (groups : Groups) (path : List ℕ) (out work : ℕ) → first_call groups out work part path ≡ first_call groups out work part' path
  first_either ours path out work = sym (first_ours out work part path) ∙ first_grouped (bytes_of our_groups) path out work ∙ first_ours out work part' path
  first_either (own bytes) path out work = first_grouped bytes path out work

  second_either : (groups : Groups) (path calls : List ℕ) → NamesReached (words part) (words calls) → NamesReached (words part') (words calls)
      → (out work : ℕ) → second_call groups out work part path calls ≡ second_call groups out work part' path calls
  second_either ours path calls i j out work =
      sym (second_ours out work part path calls) ∙ second_grouped (bytes_of our_groups) path calls i j out work ∙ second_ours out work part' path calls
  second_either (own bytes) path calls i j out work = second_grouped bytes path calls i j out work

  -- both parts are accepted, so the whole has the same number; and each path the same reply
  visit_grouped : (groups paths ns : List ℕ) (m : ℕ) → four_replies_grouped_call ns m part groups paths ≡ four_replies_grouped_call ns m part' groups paths
  unfolding four_replies_grouped
  visit_grouped groups paths ns m = rw (t.sized, t.sized', t.read, t.read')
      (λ i. leaves_several (visit (room_check reply_words (shortest ns) m then groups_check groups then split_check visit_paths paths)
      (λ n path. first_grouped groups path n m i) ns (split visit_paths paths)) ns m)

  visit_plain : (paths ns : List ℕ) (m : ℕ) → four_replies_call ns m part paths ≡ four_replies_call ns m part' paths
  visit_plain paths ns m = rw (← four_ours ns m part paths, ← four_ours ns m part' paths) (visit_grouped (bytes_of our_groups) paths ns m)

  desks_grouped : (groups paths : List ℕ) (n m : ℕ) → eight_replies_grouped_call n m part groups paths ≡ eight_replies_grouped_call n m part' groups paths
  unfolding eight_replies_grouped
  desks_grouped groups paths n m = rw (t.sized, t.sized', t.read, t.read')
      (λ i. leaves_shared (visit (room_check reply_words n m then groups_check groups then split_check desk_count paths)
      (λ n path. first_grouped groups path n m i) (replicate desk_count n) (split desk_count paths)) n m)

  desks_plain : (paths : List ℕ) (n m : ℕ) → eight_replies_call n m part paths ≡ eight_replies_call n m part' paths
  desks_plain paths n m = rw (← eight_ours n m part paths, ← eight_ours n m part' paths) (desks_grouped (bytes_of our_groups) paths n m)

pub learning : Learning
learning = record {
  first = first_either;
  second = second_either;
  visit = visit_plain;
  visit_grouped = visit_grouped;
  desks = desks_plain;
  desks_grouped = desks_grouped;
}
