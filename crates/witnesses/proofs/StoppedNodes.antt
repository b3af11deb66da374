-- Stopped nodes (document 02, request 7), by computation: document 01's whole W with a node stopped, asked by both searches, and a word of each
-- file on the way. Assumes nothing.
use mathlib.Core.Path.{◌≡◌, refl}
use mathlib.Core.List.{List, [], ◌∷◌, ◌++◌, flatten}
use Prim.Native.Nat.{ℕ}
use lib.Dec.{lit≤}
use lib.ListN.{drop}
use Rattle.sets.specs.Sets.{Mem, here, there}
use Rattle.sets.specs.Reach.{closure}
use Rattle.files.specs.Outcome.{refused, accepted}
use Rattle.files.specs.Part.{stopped as stoppedNodes}
use Rattle.walks.specs.Product.{step_in, reached, answers}
use Rattle.first_replies.specs.FirstReply.{IsFirstReply, reported, door_words, first_reply}
use Rattle.site_first.specs.First.{first_reply_call}
use Rattle.first_replies.proofs.FirstReplies.{first_reply_lem}
use Rattle.site_second.specs.Second.{second_reply, second_reply_call}
use Rattle.hub_calls.specs.CallList.{called, call_list, call_list_call}
use Rattle.hub_join.specs.Join.{joined, join_call}
use Rattle.old.specs.Old.{listed, old_search_call}
use Rattle.cutter.specs.Cut.{cut, cut_call}
use Rattle.demands.specs.Question.{ask}
use Rattle.demands.specs.Demand.{Asked, Claim}
use Rattle.demands.proofs.Owed.{owed}
use Rattle.table.specs.Table.{whole, path, part1, first1, second0, final, b}
use Rattle.witnesses.proofs.Asked.{asked_by_test, none_by_test, in_turn, two_claim}
use Rattle.witnesses.proofs.BothSearches.{none, only, BothGive, apart, together}

-- W with its node 3 stopped, and with its root stopped
abbrev pub halted : List ℕ
halted = 0x10000007 ∷ 0x20030001 ∷ 0x30050002 ∷ 0x20000002 ∷ 0x30060003 ∷ 0x20040003 ∷ 0x30050002 ∷ []

abbrev pub root_halted : List ℕ
root_halted = 0x10000007 ∷ 0x20070001 ∷ 0x30050002 ∷ 0x20000002 ∷ 0x30060003 ∷ 0x20000003 ∷ 0x30050002 ∷ []

-- 5 then 6, which ends at node 3; 5 then 6 then 5, which goes on from it; the empty word, which stays at the root
abbrev pub to3 : List ℕ
to3 = 0x40200004 ∷ 0x50005005 ∷ 0x50006006 ∷ 0x60000001 ∷ []

abbrev pub past3 : List ℕ
past3 = 0x40300006 ∷ 0x50005005 ∷ 0x50006006 ∷ 0x60000001 ∷ 0x50005005 ∷ 0x60000001 ∷ []

abbrev pub stay : List ℕ
stay = 0x40000002 ∷ 0x60000000 ∷ []

pub both-give :
    -- with no node stopped
    BothGive whole apart to3 (only 3)
    × BothGive whole apart past3 (only 2)
    × BothGive whole apart stay (only 1)
    -- a stopped node at the end of the walk and in its middle: at a door, and inside a part
    × BothGive halted apart to3 none
    × BothGive halted apart past3 none
    × BothGive halted together to3 none
    × BothGive halted together past3 none
    -- a stopped node is in the way of no walk that does not come to it
    × BothGive halted apart path final
    -- a stopped root
    × BothGive root_halted apart path none
    × BothGive root_halted apart stay none
unfolding ask flatten closure step_in reached answers reported door_words first_reply first_reply_call second_reply second_reply_call called call_list call_list_call joined join_call listed old_search_call cut
both-give = ((refl, refl), (refl, refl), (refl, refl), (refl, refl), (refl, refl), (refl, refl), (refl, refl), (refl, refl), (refl, refl), (refl, refl))

-- the part of `halted` that has the stopped node as a door, and its first reply: a door word for the stopped door, and no rows
abbrev pub halted_part : List ℕ
halted_part = 0x10000005 ∷ 0x20030001 ∷ 0x30050002 ∷ 0x20050003 ∷ 0x30050002 ∷ []

abbrev pub halted_first : List ℕ
halted_first = 0x70300007 ∷ 0x80010001 ∷ 0x90000000 ∷ 0xa0000021 ∷ 0x90000002 ∷ 0xa0000023 ∷ 0x80000003 ∷ []

-- the hub calls it all the same, as the sender does not know that it is stopped; and nothing follows
abbrev pub halted_calls : List ℕ
halted_calls = 0xb0300004 ∷ 0xc0000010 ∷ 0xc0000021 ∷ 0xc0000032 ∷ []

pub stopped-words :
    (cut_call 16384 32768 (b halted) apart 0 ≡ accepted halted_part)
    × (first_reply_call 16384 32768 (b halted_part) (b path) ≡ accepted halted_first)
    × (first_reply_call 16384 32768 (b part1) (b path) ≡ accepted first1)
    × (call_list_call 16384 32768 (b (halted_first ++ first1)) ≡ accepted halted_calls)
    × (second_reply_call 16384 32768 (b halted_part) (b path) (b halted_calls) ≡ accepted second0)
    -- a stopped root must still be a door; the bits above are zero
    × (first_reply_call 16384 32768 (b (0x10000002 ∷ 0x20060001 ∷ [])) (b path) ≡ refused 7)
    × (first_reply_call 16384 32768 (b (0x10000002 ∷ 0x20070001 ∷ [])) (b path) ≡ accepted (0x70300002 ∷ 0x80010001 ∷ []))
    × (first_reply_call 16384 32768 (b (0x10000002 ∷ 0x20080001 ∷ [])) (b path) ≡ refused 5)
    × (old_search_call 32768 32768 (b (0x10000002 ∷ 0x200b0001 ∷ [])) (b path) ≡ refused 5)
    -- nodes ascend by number alone, and a link of a stopped node must end in a whole
    × (first_reply_call 16384 32768 (b (0x10000003 ∷ 0x20040001 ∷ 0x20000002 ∷ [])) (b path) ≡ accepted (0x70300001 ∷ []))
    × (old_search_call 32768 32768 (b (0x10000003 ∷ 0x20070001 ∷ 0x30050002 ∷ [])) (b path) ≡ refused 8)
    -- a call at a stopped node that is no door is 14 all the same
    × (second_reply_call 16384 32768 (b (0x10000003 ∷ 0x20030001 ∷ 0x20040003 ∷ [])) (b path) (b (0xb0300002 ∷ 0xc0000032 ∷ [])) ≡ refused 14)
unfolding flatten closure step_in reached answers reported door_words first_reply first_reply_call second_reply second_reply_call called call_list call_list_call listed old_search_call cut cut_call
stopped-words = (refl, refl, refl, refl, refl, refl, refl, refl, refl, refl, refl, refl)

-- `stopped_door` speaks of such a reply
pub halted_door : (r : IsFirstReply halted_part path halted_first) × Mem 3 r.doors × Mem 3 (stoppedNodes (drop 1 halted_part))
unfolding flatten closure step_in reached reported door_words first_reply
halted_door = let r = first_reply_lem halted_part path refl refl in (r, r.each_door.complete 3 (there (here refl)), here refl)

-- demand 3 speaks of such a plant
abbrev pub halted_asked : Asked
halted_asked = asked_by_test halted apart path tt

pub halted_claim : Claim halted_asked (in_turn halted_asked) (owed halted_asked (in_turn halted_asked))
halted_claim = two_claim halted_asked (none_by_test halted apart path tt) (in_turn halted_asked) (lit≤ tt)
