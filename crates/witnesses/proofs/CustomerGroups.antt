-- The customer's groups (document 02, request 3), by computation: a press maker's eight words, which change answers; number 16 and its place in the
-- order; both searches; and what becomes of a question whose sites have different groups. Assumes nothing.
use mathlib.Core.Path.{◌≡◌, refl}
use mathlib.Core.Bool.{true, false}
use mathlib.Core.List.{List, [], ◌∷◌, ◌++◌, map, flatten}
use Prim.Native.Nat.{ℕ}
use lib.Dec.{lit≤}
use lib.ListN.{drop, replicate}
use Rattle.sets.specs.Reach.{closure}
use Rattle.files.specs.Word.{words}
use Rattle.files.specs.Outcome.{Outcome, refused, accepted}
use Rattle.files.specs.Groups.{loaded, our_groups}
use Rattle.expressions.specs.Labels.{holds_by, expr_of}
use Rattle.walks.specs.Product.{step_in, reached, answers}
use Rattle.first_replies.specs.FirstReply.{reported, door_words, first_reply}
use Rattle.site_first.specs.First.{first_reply_call, first_reply_grouped_call}
use Rattle.site_second.specs.Second.{second_reply, second_reply_call, second_reply_grouped_call}
use Rattle.hub_calls.specs.CallList.{called, call_list, call_list_call}
use Rattle.hub_join.specs.Join.{joined, join_call}
use Rattle.old.specs.Old.{listed, old_search_call, old_search_grouped_call}
use Rattle.cutter.specs.Cut.{cut}
use Rattle.demands.specs.Grouped.{Groups, own}
use Rattle.demands.specs.Question.{ask}
use Rattle.demands.specs.Demand.{Asked, Claim}
use Rattle.demands.proofs.Cutter.{whole_unwalked}
use Rattle.demands.proofs.Owed.{owed}
use Rattle.table.specs.Table.{whole, path, part0, part1, first0, final, b}
use Rattle.witnesses.proofs.Asked.{asked_by_test, regrouped, in_turn, two_claim}
use Rattle.witnesses.proofs.BothSearches.{none, only, OwnFilesBy, BothGive, BothGiveBy, apart, together}

-- a press maker's eight words: 5, 6, both, all labels, 0, the upper half, 5 once more, 4,095
abbrev pub press : List ℕ
press = 0x50005005 ∷ 0x50006006 ∷ 0x50006005 ∷ 0x50fff000 ∷ 0x50000000 ∷ 0x50fff800 ∷ 0x50005005 ∷ 0x50ffffff ∷ []

abbrev pub by_press : Groups
by_press = own (b press)

-- which labels its groups hold, at both ends and past them, beside ours
pub press_labels : (map (holds_by press 0x51000001) (5 ∷ 6 ∷ 7 ∷ []) ≡ false ∷ true ∷ false ∷ [])
    × (map (holds_by press 0x51000002) (4 ∷ 5 ∷ 6 ∷ 7 ∷ []) ≡ false ∷ true ∷ true ∷ false ∷ [])
    × (map (holds_by press 0x51000005) (0 ∷ 2047 ∷ 2048 ∷ 4095 ∷ []) ≡ false ∷ false ∷ true ∷ true ∷ [])
    × (map (holds_by press 0x51000007) (0 ∷ 4094 ∷ 4095 ∷ []) ≡ false ∷ false ∷ true ∷ [])
    × (map (holds_by our_groups 0x51000007) (0 ∷ 4031 ∷ 4032 ∷ 4095 ∷ []) ≡ false ∷ false ∷ true ∷ true ∷ [])
    -- a range and what is outside one hold what they held
    × (map (holds_by press 0x50006006) (5 ∷ 6 ∷ 7 ∷ []) ≡ false ∷ true ∷ false ∷ [])
    × (map (holds_by press 0x52006006) (5 ∷ 6 ∷ 7 ∷ []) ≡ true ∷ false ∷ true ∷ [])
press_labels = (refl, refl, refl, refl, refl, refl, refl)

-- document 01's own path, its 5 and 6 written as groups 0 and 1
abbrev pub by_group : List ℕ
by_group = 0x40300007 ∷ 0x51000000 ∷ 0x51000001 ∷ 0x51000000 ∷ 0x60000001 ∷ 0x60000003 ∷ 0x60000001 ∷ []

pub press_loaded : loaded press by_group ≡ path
press_loaded = refl

-- so every file is the document's own
pub press_files : OwnFilesBy by_press by_group
unfolding flatten closure step_in reached answers reported door_words first_reply first_reply_grouped_call second_reply second_reply_grouped_call
press_files = (refl, refl, refl, refl)

-- one link of group 1: ours has the root's, which is 5, and the press maker's has not
abbrev pub one : List ℕ
one = 0x40100002 ∷ 0x51000001 ∷ []

-- group 0, then group 1: 5 and then 6 by the press maker's words
abbrev pub two : List ℕ
two = 0x40200004 ∷ 0x51000000 ∷ 0x51000001 ∷ 0x60000001 ∷ []

pub both-grouped :
    BothGiveBy by_press whole apart by_group final
    × BothGiveBy by_press whole apart two (only 3)
    × BothGiveBy by_press whole apart one none
    × BothGiveBy (own (b our_groups)) whole apart one (only 2)
    × BothGive whole apart one (only 2)
    × BothGiveBy by_press whole together one none
unfolding ask flatten closure step_in reached answers reported door_words first_reply first_reply_call first_reply_grouped_call second_reply second_reply_call second_reply_grouped_call called call_list call_list_call joined join_call listed old_search_call old_search_grouped_call cut
both-grouped = ((refl, refl), (refl, refl), (refl, refl), (refl, refl), (refl, refl), (refl, refl))

-- number 16, with a path that names no group
abbrev pub on_groups : List ℕ → Outcome
on_groups groups = first_reply_grouped_call 16384 32768 (b part0) groups (b path)

-- seven words, and one more
abbrev pub seven : List ℕ
seven = replicate 7 0x50fff000

abbrev pub with : ℕ → Outcome
with w = on_groups (b (seven ++ w ∷ []))

pub group-words :
    (map on_groups (b press ∷ b our_groups ∷ []) ≡ replicate 2 (accepted first0))
    × (map with (0x50000000 ∷ 0x50ffffff ∷ 0x50006005 ∷ []) ≡ replicate 3 (accepted first0))
    -- not just eight words: none, 28, 31, 33 and 64 bytes
    × (map on_groups ([] ∷ b seven ∷ (b seven ++ 0 ∷ 0xf0 ∷ 0xff ∷ []) ∷ (b press ++ 0x50 ∷ []) ∷ b (press ++ press) ∷ []) ≡ replicate 5 (refused 16))
    -- a low end above its high end
    × (map with (0x50005006 ∷ 0x50000fff ∷ []) ≡ replicate 2 (refused 16))
    -- a group, labels outside a range, sorts 3 and 15, an operator, a node, zero
    × (map with (0x51000000 ∷ 0x52fff000 ∷ 0x53fff000 ∷ 0x5ffff000 ∷ 0x60000000 ∷ 0x20000001 ∷ 0 ∷ []) ≡ replicate 7 (refused 16))
    -- the first word, and one in the middle
    × (map on_groups (b (0x51000000 ∷ seven) ∷ b (0x50fff000 ∷ 0x50fff000 ∷ 0x50fff000 ∷ 0x50005006 ∷ 0x50fff000 ∷ 0x50fff000 ∷ 0x50fff000 ∷ 0x50fff000 ∷ []) ∷ []) ≡ replicate 2 (refused 16))
unfolding flatten closure step_in reached answers reported door_words first_reply first_reply_grouped_call
group-words = (refl, refl, refl, refl, refl, refl)

-- its place: after the buffers and the part, or the whole with 7 and 8; before the path and the call list. The path is checked as it is handed in
pub group-orders :
    (first_reply_grouped_call 16383 32768 [] [] [] ≡ refused 1)
    × (first_reply_grouped_call 16384 32768 [] [] [] ≡ refused 2)
    × (first_reply_grouped_call 16384 32768 (b (0x10000002 ∷ 0x30050002 ∷ [])) [] [] ≡ refused 5)
    × (first_reply_grouped_call 16384 32768 (b part0) [] [] ≡ refused 16)
    × (first_reply_grouped_call 16384 32768 (b part0) (b press) [] ≡ refused 2)
    × (first_reply_grouped_call 16384 32768 (b part0) (b press) (b (0x40100002 ∷ 0x51000008 ∷ [])) ≡ refused 5)
    × (second_reply_grouped_call 16384 32768 (b (0x10000002 ∷ 0x30050002 ∷ [])) [] [] [] ≡ refused 5)
    × (second_reply_grouped_call 16384 32768 (b part0) [] [] [] ≡ refused 16)
    × (second_reply_grouped_call 16384 32768 (b part0) (b press) (b (0x40100002 ∷ 0x51000008 ∷ [])) [] ≡ refused 5)
    × (second_reply_grouped_call 16384 32768 (b part0) (b press) (b by_group) [] ≡ refused 2)
    × (second_reply_grouped_call 16384 32768 (b part0) (b press) (b by_group) (b (0xb0200002 ∷ 0xc0000010 ∷ [])) ≡ refused 12)
    × (old_search_grouped_call 32768 32768 (b (0x10000002 ∷ 0x20000001 ∷ [])) [] [] ≡ refused 7)
    × (old_search_grouped_call 32768 32768 (b (0x10000003 ∷ 0x20030001 ∷ 0x30050002 ∷ [])) [] [] ≡ refused 8)
    × (old_search_grouped_call 32768 32768 (b whole) [] [] ≡ refused 16)
    × (old_search_grouped_call 32768 32768 (b whole) (b press) (b (0x40100002 ∷ 0x51000008 ∷ [])) ≡ refused 5)
unfolding flatten closure step_in reached answers reported door_words first_reply first_reply_grouped_call second_reply second_reply_grouped_call listed old_search_grouped_call
group-orders = (refl, refl, refl, refl, refl, refl, refl, refl, refl, refl, refl, refl, refl, refl, refl)

-- demand 3 speaks of such a question
abbrev pub press_asked : Asked
press_asked = regrouped (asked_by_test whole apart by_group tt) by_press refl

pub press_claim : Claim press_asked (in_turn press_asked) (owed press_asked (in_turn press_asked))
press_claim = two_claim press_asked (whole_unwalked (words (b press)) whole apart refl 0 refl (expr_of (drop 1 by_group))) (in_turn press_asked) (lit≤ tt)

-- Sites that differ in their groups: no call refuses, and the list may be short. Site 1 has 5 for group 1, so the walk by 5 and 6 ends there, and 3
-- is missing.
abbrev given : Outcome → List ℕ
given (accepted ws) = ws
given (refused k) = []

abbrev others : List ℕ
others = b (0x50005005 ∷ 0x50005005 ∷ 0x50006005 ∷ 0x50fff000 ∷ 0x50000000 ∷ 0x50fff800 ∷ 0x50005005 ∷ 0x50ffffff ∷ [])

abbrev differing : Outcome
differing =
    let firsts = given (first_reply_grouped_call 16384 32768 (b part0) (b press) (b two)) ++ given (first_reply_grouped_call 16384 32768 (b part1) others (b two)) in
    let list = b (given (call_list_call 16384 32768 (b firsts))) in
    let seconds = given (second_reply_grouped_call 16384 32768 (b part0) (b press) (b two) list) ++ given (second_reply_grouped_call 16384 32768 (b part1) others (b two) list) in
    join_call 32768 32768 (b seconds)

pub short_unseen : differing ≡ accepted none
unfolding flatten closure step_in reached answers reported door_words first_reply first_reply_grouped_call second_reply second_reply_grouped_call called call_list call_list_call joined join_call
short_unseen = refl
