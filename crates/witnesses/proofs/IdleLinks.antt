-- Links that nobody walks (document 02, request 5), by computation: document 01's W with a link from node 2 to a removed node 99. With label 5 its
-- site reports it, from states that no walk has at node 2, and the question ends as for W; with label 6 a walk from the root takes it, and the hub
-- refuses with 14. Which bundles get 14, and before 15; and why the parts' links are asked about, and not the plant's alone. Assumes nothing.
use mathlib.Core.Path.{◌≡◌, refl, sym, ◌∙◌, subst}
use mathlib.Core.Bool.{Bool, not, ◌||◌}
use mathlib.Core.Logic.{⊎_elim}
use mathlib.Core.List.Memᴰ
use mathlib.Core.List.{List, [], ◌∷◌, ◌++◌, map, flatten}
use Prim.Native.Nat.{ℕ, ◌≤◌, ◌<◌}
use native.Mathlib.Omega.{arith}
use lib.Dec.{T, leb, leb→le, lit≤}
use lib.ListN.{length, drop, length-map}
use Rattle.sets.specs.Sets.{Mem, here, span, Perm, ◌⊆◌, any, member, ascending}
use Rattle.sets.specs.Reach.{closure, Reach, seed, next}
use Rattle.sets.proofs.Sets.{member_iff, ascending_iff, on_cons}
use Rattle.sets.proofs.Tests.{implies_iff}
use Rattle.sets.proofs.Filter.{all_iff, not_member_iff}
use Rattle.sets.proofs.Lengths.{pigeonhole, ascending_distinct}
use Rattle.sets.proofs.Perm.{perm-refl}
use Rattle.files.specs.Word.{bytes_of}
use Rattle.files.specs.Field.{target_of, edge_word, reach_word, call_word}
use Rattle.files.specs.Groups.{our_groups}
use Rattle.files.specs.Outcome.{refused, accepted}
use Rattle.files.specs.Part.{nodes, roots as rootNodes, edges, part_check}
use Rattle.files.specs.Cuts.{cut_check}
use Rattle.files.specs.Reply.{doors, roots, rows}
use Rattle.files.specs.Bundle.{first_bundle_check}
use Rattle.files.proofs.Blocks.{edge_of}
use Rattle.files.proofs.Words.{words_bytes}
use Rattle.expressions.specs.Labels.{expr_of}
use Rattle.walks.specs.Product.{step_in, reached, answers}
use Rattle.first_replies.specs.FirstReply.{reported, door_words, first_reply}
use Rattle.site_first.specs.First.{first_reply_call, first_reply_grouped_call}
use Rattle.site_second.specs.Second.{second_reply, second_reply_call, second_reply_grouped_call}
use Rattle.hub_calls.specs.CallList.{called, call_list, call_list_call}
use Rattle.hub_calls.proofs.CallLists.{seeds, called_lists, calls_stray}
use Rattle.hub_join.specs.Join.{joined, join_call}
use Rattle.old.specs.Old.{listed, old_search_call}
use Rattle.cutter.specs.Cut.{cut, cut_call}
use Rattle.dearest.specs.Dearest.{dear_part, dear_path}
use Rattle.demands.specs.Plant.{Closed, HasEdge, Holds, AcceptedPart, TrueCut, Unwalked, Fits, body}
use Rattle.demands.specs.PlantOf.{plant_of, parts_of}
use Rattle.demands.specs.Grouped.{ours, asks}
use Rattle.demands.specs.Question.{first, calls, stopped, going, Answer, ask}
use Rattle.demands.specs.Demand.{Asked, NoneWalked, Put, Right, question, in_order, First, at_once, Over, Claim}
use Rattle.demands.proofs.PlantOf.{one_root_of, plant_closed}
use Rattle.demands.proofs.Owed.{owed}
use Rattle.growth.proofs.Ended.{ended_right}
use Rattle.table.specs.Table.{whole, path, part0, first0, calls as callsOfW, second0, second1, final, b}
use Rattle.witnesses.proofs.Asked.{all_words, words_by_test, stays, asked_of, stays_none, example_room, asking, in_turn, ended, two_claim}
use Rattle.witnesses.proofs.Vectors.{on_firsts}
use Rattle.witnesses.proofs.Over.{row15, row15_is, row15_over, ranges_accepted}
use Rattle.witnesses.proofs.TwoSites.{site_accepted}
use Rattle.witnesses.proofs.BothSearches.{none, joined_list, apart}
use Rattle.witnesses.proofs.CustomerGroups.{by_press, by_group}

-- node 2 links to 99 with label 5
abbrev pub idle : List ℕ
idle = 0x10000008 ∷ 0x20030001 ∷ 0x30050002 ∷ 0x20000002 ∷ 0x30050063 ∷ 0x30060003 ∷ 0x20000003 ∷ 0x30050002 ∷ []

abbrev pub idle_part : List ℕ
idle_part = 0x11000004 ∷ 0x20010002 ∷ 0x30050063 ∷ 0x30060003 ∷ []

-- the reply that its site owes has the link in it, at states 0 and 2
abbrev pub idle_first : List ℕ
idle_first =
    0x7130000a ∷ 0x80000002 ∷ 0x90000000 ∷ 0xa0000631 ∷ 0x90000001 ∷ 0xa0000032 ∷ 0x90000002 ∷ 0xa0000633 ∷ 0x90000003 ∷ 0xa0000032 ∷ []

-- the same link with label 6
abbrev pub walked : List ℕ
walked = 0x10000008 ∷ 0x20030001 ∷ 0x30050002 ∷ 0x20000002 ∷ 0x30060003 ∷ 0x30060063 ∷ 0x20000003 ∷ 0x30050002 ∷ []

abbrev pub walked_part : List ℕ
walked_part = 0x11000004 ∷ 0x20010002 ∷ 0x30060003 ∷ 0x30060063 ∷ []

abbrev pub walked_first : List ℕ
walked_first = 0x71300008 ∷ 0x80000002 ∷ 0x90000001 ∷ 0xa0000032 ∷ 0xa0000632 ∷ 0x90000003 ∷ 0xa0000032 ∷ 0xa0000632 ∷ []

-- every file of the question: the idle link's words are in one reply, and all others are the document's own
pub idle-files :
    (first_reply_call 16384 32768 (b part0) (b path) ≡ accepted first0)
    × (first_reply_call 16384 32768 (b idle_part) (b path) ≡ accepted idle_first)
    × (call_list_call 16384 32768 (b (first0 ++ idle_first)) ≡ accepted callsOfW)
    × (second_reply_call 16384 32768 (b part0) (b path) (b callsOfW) ≡ accepted second0)
    × (second_reply_call 16384 32768 (b idle_part) (b path) (b callsOfW) ≡ accepted second1)
    × (join_call 32768 32768 (b (second0 ++ second1)) ≡ accepted final)
    -- the link walked: its site replies as before, and the hub refuses
    × (first_reply_call 16384 32768 (b walked_part) (b path) ≡ accepted walked_first)
    × (call_list_call 16384 32768 (b (first0 ++ walked_first)) ≡ refused 14)
    -- old search and cutter refuse either
    × (old_search_call 32768 32768 (b idle) (b path) ≡ refused 8)
    × (old_search_call 32768 32768 (b walked) (b path) ≡ refused 8)
    × (cut_call 16384 32768 (b idle) apart 1 ≡ refused 8)
    × (cut_call 16384 32768 (b walked) apart 1 ≡ refused 8)
unfolding flatten closure step_in reached answers reported door_words first_reply first_reply_call second_reply second_reply_call called call_list call_list_call joined join_call listed old_search_call cut cut_call
idle-files = (refl, refl, refl, refl, refl, refl, refl, refl, refl, refl, refl, refl)

-- ---- the idle link

pub idle_stays : T (stays idle path)
unfolding closure flatten step_in reached
idle_stays = tt

abbrev pub idle_asked : Asked
idle_asked = asked_of idle apart path (words_by_test idle tt) (lit≤ tt) refl (one_root_of idle 1 refl) 0 refl (words_by_test path tt, lit≤ tt, refl) ours tt

pub idle_none : NoneWalked idle_asked
idle_none = stays_none idle apart path refl 0 refl idle_asked.path_accepted ours tt idle_stays

pub idle_parts : idle_asked.parts ≡ part0 ∷ idle_part ∷ []
unfolding cut
idle_parts = refl

-- there is no node 99, so the plant is none without links that end nowhere
pub idle_open : Closed idle_asked.plant → ⊥
idle_open closed = (not_member_iff 99 (nodes (body idle))).0 tt (closed 2 5 99 (0x30050063, here refl, refl, refl))

-- its question is run, and ends with the document's files
abbrev pub idle_answer : Answer
idle_answer = record { seconds = b second0 ∷ b second1 ∷ []; final = b final }

pub idle_run : question idle_asked (in_turn idle_asked) ≡ going idle_answer
unfolding ask flatten closure step_in reached answers reported door_words first_reply first_reply_call second_reply second_reply_call called call_list call_list_call joined join_call cut
idle_run = refl

pub idle_claim : Claim idle_asked (in_turn idle_asked) (owed idle_asked (in_turn idle_asked))
idle_claim = two_claim idle_asked idle_none (in_turn idle_asked) (lit≤ tt)

-- so demand 3 says that this list is right
pub idle_right : Right idle_asked idle_answer
idle_right = ended_right idle_asked (ended idle_asked (in_turn idle_asked) idle_answer idle_run)

-- the edges of f that end at nodes of f are edges of g, by a test: the edge w of the node x, all edges of x, all nodes
module _ (f g : List ℕ) where
  abbrev kept_edge : ℕ → ℕ → Bool
  kept_edge x w = not (member (target_of w) (nodes (body f))) || member w (edges (body g) x)

  abbrev kept_at : ℕ → Bool
  kept_at x = not (any (λ w. not (kept_edge x w)) (edges (body f) x))

  abbrev pub kept_edges : Bool
  kept_edges = not (any (λ x. not (kept_at x)) (nodes (body f)))

  pub kept : T kept_edges → (x a y : ℕ) → HasEdge f x a y → Mem y (nodes (body f)) → HasEdge g x a y
  kept t x a y (w, m, l, e) n =
      let (_, _, k) = edge_of (body f) x w m in
      let u = (all_iff (kept_edge x) (edges (body f) x)).0 ((all_iff kept_at (nodes (body f))).0 t x k) w m in
      let s = (implies_iff (member (target_of w) (nodes (body f))) (member w (edges (body g) x))).0 u ((member_iff (target_of w) (nodes (body f))).1 (rw e n)) in
      (w, (member_iff w (edges (body g) x)).0 s, l, e)

-- document 01's own whole fits the plant, as the idle link is left out: so the list is the old search's of W
pub idle_fits : Fits idle_asked.plant whole
idle_fits = record {
  word = words_by_test whole tt;
  small = lit≤ tt;
  whole = refl;
  holds = record {
    is_node_lem = λ x m. m;
    has_link = λ x a y m l n. kept idle whole tt x a y l n;
    is_link = λ x a y l n. kept whole idle tt x a y l n;
    has_root = λ x m r. r;
    is_root_lem = λ x r. r;
    has_stopped = λ x m s. s;
    is_stopped_lem = λ x s. s;
  };
  every = λ x m. m;
}

-- ---- the link walked

pub walked_parts : parts_of walked apart ≡ part0 ∷ walked_part ∷ []
unfolding cut
walked_parts = refl

-- as the host asks: the sites reply, and the hub refuses
pub walked_run : ask ours example_room (b path) (map b (parts_of walked apart)) (map b (parts_of walked apart)) ≡ stopped calls 14
unfolding ask flatten closure step_in reached answers reported door_words first_reply first_reply_call second_reply second_reply_call called call_list call_list_call joined join_call cut
walked_run = refl

-- all else that demand 3 asks is given, so the link is not unwalked
pub walked_not : Unwalked our_groups (plant_of walked) (parts_of walked apart) (expr_of (drop 1 path)) → ⊥
walked_not none =
    let q = asked_of walked apart path (words_by_test walked tt) (lit≤ tt) refl (one_root_of walked 1 refl) 0 refl
    (words_by_test path tt, lit≤ tt, refl) ours tt in
    omega (arith, (((two_claim q none (in_turn q) (lit≤ tt)).stops calls 14).0 walked_run).1)

-- a link of a stopped node is not walked, whatever its label
abbrev pub stopped_idle : List ℕ
stopped_idle = 0x10000008 ∷ 0x20030001 ∷ 0x30050002 ∷ 0x20040002 ∷ 0x30060003 ∷ 0x30060063 ∷ 0x20000003 ∷ 0x30050002 ∷ []

pub stopped_idle_lem : T (stays stopped_idle path)
    × (joined_list (ask ours example_room (b path) (map b (parts_of stopped_idle apart)) (map b (parts_of stopped_idle apart))) ≡ b none)
unfolding ask flatten closure step_in reached answers reported door_words first_reply first_reply_call second_reply second_reply_call called call_list call_list_call joined join_call cut
stopped_idle_lem = (tt, refl)

-- ---- groups: by the press maker's words the path is document 01's, and the link with label 5 idle; by our own it is walked

pub press_stays : T (stays idle (asks by_press by_group))
unfolding closure flatten step_in reached
press_stays = tt

abbrev pub press_idle : Asked
press_idle = asked_of idle apart by_group (words_by_test idle tt) (lit≤ tt) refl (one_root_of idle 1 refl) 0 refl (words_by_test by_group tt, lit≤ tt, refl) by_press refl

pub press_idle_run : (question press_idle (in_turn press_idle) ≡ going idle_answer)
    × (ask ours example_room (b by_group) (map b press_idle.parts) (map b press_idle.parts) ≡ stopped calls 14)
unfolding ask flatten closure step_in reached answers reported door_words first_reply first_reply_call first_reply_grouped_call second_reply second_reply_call second_reply_grouped_call called call_list call_list_call joined join_call cut
press_idle_run = (refl, refl)

pub press_idle_claim : Claim press_idle (in_turn press_idle) (owed press_idle (in_turn press_idle))
press_idle_claim = two_claim press_idle (stays_none idle apart by_group refl 0 refl press_idle.path_accepted by_press refl press_stays) (in_turn press_idle) (lit≤ tt)

-- ---- replies and their lengths are those of the parts as they stand: a 15 by an idle link is a 15

-- row 15's two doors and their nine targets, the ninth of them removed; the doors are linked to by a node to which no walk from the root comes
abbrev pub removed : List ℕ
removed =
    0x1000001f ∷ 0x20000000 ∷ map (edge_word 0) (span 2 9) ++ 0x20000001 ∷ map (edge_word 0) (span 2 9)
    ++ 0x20030002 ∷ 0x20000003 ∷ 0x20000004 ∷ 0x20000005 ∷ 0x20000006 ∷ 0x20000007 ∷ 0x20000008 ∷ 0x20000009 ∷ 0x30000000 ∷ 0x30000001 ∷ []

abbrev pub two_sites : List ℕ
two_sites = 0 ∷ 0 ∷ 1 ∷ 1 ∷ 1 ∷ 1 ∷ 1 ∷ 1 ∷ 1 ∷ 1 ∷ []

abbrev pub eight_targets : List ℕ
eight_targets =
    0x1100000b ∷ 0x20030002 ∷ 0x20010003 ∷ 0x20010004 ∷ 0x20010005 ∷ 0x20010006 ∷ 0x20010007 ∷ 0x20010008 ∷ 0x20010009 ∷ 0x30000000 ∷ 0x30000001 ∷ []

pub record Removed : Type 0 where
  pub word : T (all_words removed)
  pub few : T (leb (length removed) 4096)
  pub read : part_check removed ≡ 0
  pub root_is : rootNodes (body removed) ≡ 2 ∷ []
  pub cuts_read : cut_check (body removed) two_sites 0 ≡ 0
  pub inside : T (stays removed (dear_path 15))
  pub parts_are : parts_of removed two_sites ≡ row15 ∷ eight_targets ∷ []

pub removed_is : Removed
unfolding closure flatten step_in reached dear_part dear_path cut
removed_is = record { word = tt; few = tt; read = refl; root_is = refl; cuts_read = refl; inside = tt; parts_are = refl }

abbrev pub removed_asked : Asked
removed_asked =
    let r = removed_is in
    asked_of removed two_sites (dear_path 15) (words_by_test removed r.word) (leb→le (length removed) 4096 r.few) r.read
    (one_root_of removed 2 r.root_is) 0 r.cuts_read ranges_accepted ours tt

removed_none : NoneWalked removed_asked
removed_none = let r = removed_is in stays_none removed two_sites (dear_path 15) r.read 0 r.cuts_read ranges_accepted ours tt r.inside

abbrev pub removed_put : Put removed_asked
removed_put =
    let order = row15 ∷ eight_targets ∷ [] in
    let once = subst (Perm order) (sym removed_is.parts_are) (perm-refl order) in
    asking removed_asked order order once once

removed_first : First (Over removed_asked removed_put (owed removed_asked removed_put)) (in_order removed_asked removed_put) (first (bytes_of row15))
unfolding owed
removed_first = at_once {c = first (bytes_of row15)} (rw (words_bytes row15 (site_accepted row15_is).0) (omega (arith, row15_over)))

pub removed_stops : question removed_asked removed_put ≡ stopped (first (bytes_of row15)) 15
removed_stops =
    let few = subst (λ (ps : List (List ℕ)). length ps ≤ 2) (sym removed_is.parts_are) (lit≤ tt) in
    ((two_claim removed_asked removed_none removed_put few).stops (first (bytes_of row15)) 15).1 (removed_first, refl)

-- ---- which bundles get 14

pub stray-bundles :
    -- a followed row names a node that is no door: the root's own, one of another door, one of another file
    (on_firsts (0x70100004 ∷ 0x80010001 ∷ 0x90000000 ∷ 0xa0000631 ∷ []) ≡ refused 14)
    × (on_firsts (0x70100007 ∷ 0x80010001 ∷ 0x90000000 ∷ 0xa0000021 ∷ 0x80000002 ∷ 0x90000001 ∷ 0xa0000631 ∷ []) ≡ refused 14)
    × (on_firsts (0x70100004 ∷ 0x80010001 ∷ 0x90000000 ∷ 0xa0000021 ∷ 0x71100004 ∷ 0x80000002 ∷ 0x90000001 ∷ 0xa0000631 ∷ []) ≡ refused 14)
    -- a row of a door that is not called, and one of a called door in a state in which it is not called, may name anything
    × (on_firsts (0x70100005 ∷ 0x80010001 ∷ 0x80000002 ∷ 0x90000001 ∷ 0xa0000631 ∷ []) ≡ accepted (0xb0100002 ∷ 0xc0000010 ∷ []))
    × (on_firsts (0x70100004 ∷ 0x80010001 ∷ 0x90000001 ∷ 0xa0000631 ∷ []) ≡ accepted (0xb0100002 ∷ 0xc0000010 ∷ []))
    × (on_firsts (0x70100007 ∷ 0x80010001 ∷ 0x90000000 ∷ 0xa0000021 ∷ 0x80000002 ∷ 0x90000000 ∷ 0xa0000631 ∷ []) ≡ accepted (0xb0100003 ∷ 0xc0000010 ∷ 0xc0000021 ∷ []))
    -- doors of any file count, before the row or behind it
    × (on_firsts (0x70100002 ∷ 0x80000063 ∷ 0x71100004 ∷ 0x80010001 ∷ 0x90000000 ∷ 0xa0000631 ∷ []) ≡ accepted (0xb0100003 ∷ 0xc0000010 ∷ 0xc0000631 ∷ []))
unfolding flatten closure called call_list call_list_call on_firsts
stray-bundles = (refl, refl, refl, refl, refl, refl, refl)

-- 14 comes before 15: the root's row names 4,093 pairs and another door's row three more, so the call list is over its limit; and most of their nodes
-- are no doors. The set is too long to be computed, so it is told by a list of some of its pairs.
unfoldable pub pairs_from : ℕ → ℕ → List ℕ
pairs_from c n = span c n

unfoldable pub far : List ℕ
far = 0x70f01000 ∷ 0x80010000 ∷ 0x90000000 ∷ map reach_word (pairs_from 16 4093) ++ 0x71f00006 ∷ 0x80000001 ∷ 0x90000000 ∷ map reach_word (pairs_from 4109 3)

-- pairs of its set
abbrev pub some_pairs : List ℕ
some_pairs = 0 ∷ pairs_from 16 4093 ++ pairs_from 4109 3

record Far : Type 0 where
  word : T (all_words far)
  few : length far ≡ 4102
  read : first_bundle_check far ≡ 0
  root_is : roots far ≡ 0 ∷ []
  doors_are : doors far ≡ 0 ∷ 1 ∷ []
  row_0 : rows far 0 ≡ pairs_from 16 4093
  row_16 : rows far 16 ≡ pairs_from 4109 3
  has_16 : T (member 16 (pairs_from 16 4093))
  has_32 : T (member 32 (pairs_from 16 4093))
  rising : T (ascending some_pairs)
  many : length some_pairs ≡ 4097

far_is : Far
unfolding far pairs_from
far_is = record {
  word = tt;
  few = refl;
  read = refl;
  root_is = refl;
  doors_are = refl;
  row_0 = refl;
  row_16 = refl;
  has_16 = tt;
  has_32 = tt;
  rising = tt;
  many = refl;
}

root_called : Reach (rows far) (seeds far) 0
root_called = seed {x = 0} (rw far_is.root_is (here refl))

row_called : (c : ℕ) → Mem c (pairs_from 16 4093) → Reach (rows far) (seeds far) c
row_called c m = next {y = c} root_called (rw far_is.row_0 m)

some_called : some_pairs ⊆ called far
some_called = on_cons (λ c. Mem c (called far)) ((called_lists far).complete 0 root_called) (λ c m.
    (called_lists far).complete c (⊎_elim (row_called c)
    (λ i. next {y = c} (row_called 16 ((member_iff 16 (pairs_from 16 4093)).0 far_is.has_16)) (rw far_is.row_16 i)) (Memᴰ.append_cases (pairs_from 16 4093) m)))

pub far_over : 4096 < length (call_list far)
unfolding call_list
far_over = omega (
  arith,
  far_is.many,
  length-map (called far) call_word,
  pigeonhole some_pairs (called far) (ascending_distinct some_pairs ((ascending_iff some_pairs).0 far_is.rising)) some_called,
)

pub far_refused : call_list_call 16384 32768 (b far) ≡ refused 14
far_refused =
    let c = (member_iff 32 (pairs_from 16 4093)).0 far_is.has_32 in
    calls_stray 16384 32768 far (lit≤ tt) (lit≤ tt) (words_by_test far far_is.word) (omega (arith, far_is.few)) (omega (arith, far_is.few)) far_is.read
    32 ((called_lists far).complete 32 (row_called 32 c)) (rw far_is.doors_are ((not_member_iff 2 (0 ∷ 1 ∷ [])).0 tt))

-- ---- why the parts' links are asked about, and not the plant's alone

-- A plant of one node has no link at all, its part one that ends nowhere. With such links left out the part is a true cut of the plant, and where the
-- path's states can step on the link the hub refuses with 14.
abbrev pub lone : List ℕ
lone = 0x10000002 ∷ 0x20030001 ∷ []

abbrev pub lone_part : List ℕ
lone_part = 0x10000003 ∷ 0x20030001 ∷ 0x30050063 ∷ []

abbrev pub one5 : List ℕ
one5 = 0x40100002 ∷ 0x50005005 ∷ []

is_part : {f : List ℕ} → Mem f (lone_part ∷ []) → f ≡ lone_part
is_part m = Memᴰ.eq_of_singleton m

lone_cut : TrueCut (plant_of lone) (lone_part ∷ [])
lone_cut = record {
  part = λ f m. subst AcceptedPart (sym (is_part m)) (words_by_test lone_part tt, lit≤ tt, refl);
  holds = λ f m. subst (Holds (plant_of lone)) (sym (is_part m)) (record {
    is_node_lem = λ x m. m;
    has_link = λ x a y m l n. kept lone lone_part tt x a y l n;
    is_link = λ x a y l n. kept lone_part lone tt x a y l n;
    has_root = λ x m r. r;
    is_root_lem = λ x r. r;
    has_stopped = λ x m s. s;
    is_stopped_lem = λ x s. s;
  });
  sites = (λ m. elim m [ ], tt);
  every = λ x m. (lone_part, here refl, m);
  once = λ x f g m k i j. is_part m ∙ sym (is_part k);
  crossed = λ x a y f g m k n. absurd (n (is_part m ∙ sym (is_part k)));
}

pub parts_matter : Closed (plant_of lone) × TrueCut (plant_of lone) (lone_part ∷ [])
    × (ask ours example_room (b one5) (b lone_part ∷ []) (b lone_part ∷ []) ≡ stopped calls 14)
unfolding ask flatten closure step_in reached answers reported door_words first_reply first_reply_call second_reply second_reply_call called call_list call_list_call joined join_call
parts_matter = (plant_closed lone refl, lone_cut, refl)
