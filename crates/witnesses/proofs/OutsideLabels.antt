-- Labels outside a range (document 02, request 1), by computation: which labels such a word holds, which words are accepted, and document 01's whole
-- W asked by both searches for links that are not some. Assumes nothing.
use mathlib.Core.Path.{◌≡◌, refl}
use mathlib.Core.Bool.{true, false, ◌||◌}
use mathlib.Core.List.{List, [], ◌∷◌, map, flatten}
use Prim.Native.Nat.{ℕ, ◌+◌, ◌*◌, ◌^◌, ◌<◌}
use lib.Dec.{lit≤}
use lib.ListN.{replicate}
use Rattle.sets.specs.Reach.{closure}
use Rattle.files.specs.Outcome.{Outcome, refused, accepted}
use Rattle.expressions.specs.Labels.{holds}
use Rattle.expressions.proofs.Labels.{two_ranges}
use Rattle.walks.specs.Product.{step_in, reached, answers}
use Rattle.first_replies.specs.FirstReply.{reported, door_words, first_reply}
use Rattle.site_first.specs.First.{first_reply_call}
use Rattle.site_second.specs.Second.{second_reply, second_reply_call}
use Rattle.hub_calls.specs.CallList.{called, call_list, call_list_call}
use Rattle.hub_join.specs.Join.{joined, join_call}
use Rattle.old.specs.Old.{listed, old_search_call}
use Rattle.cutter.specs.Cut.{cut}
use Rattle.demands.specs.Question.{ask}
use Rattle.demands.specs.Demand.{Asked, Claim}
use Rattle.demands.proofs.Owed.{owed}
use Rattle.table.specs.Table.{whole, final}
use Rattle.witnesses.proofs.Asked.{asked_by_test, none_by_test, in_turn, two_claim}
use Rattle.witnesses.proofs.Vectors.{on_path}
use Rattle.witnesses.proofs.BothSearches.{none, only, OwnFiles, BothGive, apart}

-- which labels a word of sort 2 holds: both ends, and one past each
pub outside_labels : (map (holds 0x52006005) (0 ∷ 4 ∷ 5 ∷ 6 ∷ 7 ∷ 4095 ∷ []) ≡ true ∷ true ∷ false ∷ false ∷ true ∷ true ∷ [])
    -- a hole of one label: inside, at 0, at 4,095
    × (map (holds 0x52005005) (4 ∷ 5 ∷ 6 ∷ []) ≡ true ∷ false ∷ true ∷ [])
    × (map (holds 0x52000000) (0 ∷ 1 ∷ 4095 ∷ []) ≡ false ∷ true ∷ true ∷ [])
    × (map (holds 0x52ffffff) (0 ∷ 4094 ∷ 4095 ∷ []) ≡ true ∷ true ∷ false ∷ [])
    -- all but the lowest, all but the highest, and none
    × (map (holds 0x52fff001) (0 ∷ 1 ∷ 4095 ∷ []) ≡ true ∷ false ∷ false ∷ [])
    × (map (holds 0x52ffe000) (0 ∷ 4094 ∷ 4095 ∷ []) ≡ false ∷ false ∷ true ∷ [])
    × (map (holds 0x52fff000) (0 ∷ 1 ∷ 4094 ∷ 4095 ∷ []) ≡ false ∷ false ∷ false ∷ false ∷ [])
outside_labels = (refl, refl, refl, refl, refl, refl, refl)

-- any label but 5, and the two ranges that were needed for it
pub any_but_5 : (a : ℕ) → a < 2 ^ 12 → holds 0x52005005 a ≡ (holds 0x50004000 a || holds 0x50fff006 a)
any_but_5 a h = two_ranges 5 5 a (lit≤ tt) (lit≤ tt) (lit≤ tt) h

-- a path of one label word
abbrev pub on_word : ℕ → Outcome
on_word w = on_path (0x40100002 ∷ w ∷ [])

pub outside-words :
    (map on_word (0x52006005 ∷ 0x52005005 ∷ 0x52000000 ∷ 0x52ffffff ∷ 0x52fff000 ∷ []) ≡ replicate 5 (accepted (0x70100001 ∷ [])))
    -- a low end above its high end
    × (map on_word (0x52005006 ∷ 0x52000fff ∷ []) ≡ replicate 2 (refused 5))
    -- sorts 3 to 15, with the ends in order
    × (map (λ k. on_word (0x50006005 + k * 2 ^ 24)) (3 ∷ 4 ∷ 5 ∷ 6 ∷ 7 ∷ 8 ∷ 9 ∷ 10 ∷ 11 ∷ 12 ∷ 13 ∷ 14 ∷ 15 ∷ []) ≡ replicate 13 (refused 5))
unfolding flatten closure step_in reached answers reported door_words first_reply first_reply_call on_path
outside-words = (refl, refl, refl)

-- any link but 6, then any number of times any but 5 and any but 6: W's links are 5 and 6, so this is document 01's own path in other words
abbrev pub others : List ℕ
others = 0x40300007 ∷ 0x52006006 ∷ 0x52005005 ∷ 0x52006006 ∷ 0x60000001 ∷ 0x60000003 ∷ 0x60000001 ∷ []

-- so every file is the document's own
pub outside_files : OwnFiles others
unfolding flatten closure step_in reached answers reported door_words first_reply first_reply_call second_reply second_reply_call
outside_files = (refl, refl, refl, refl)

pub both-outside :
    BothGive whole apart others final
    -- one link that is not 6, and one that is not 5, of which the root has none
    × BothGive whole apart (0x40100002 ∷ 0x52006006 ∷ []) (only 2)
    × BothGive whole apart (0x40100002 ∷ 0x52005005 ∷ []) none
    -- outside of 5 to 6 no link is left, nor outside of 0 to 4,095: a star of it is the empty word
    × BothGive whole apart (0x40100002 ∷ 0x52006005 ∷ []) none
    × BothGive whole apart (0x40100003 ∷ 0x52fff000 ∷ 0x60000003 ∷ []) (only 1)
unfolding ask flatten closure step_in reached answers reported door_words first_reply first_reply_call second_reply second_reply_call called call_list call_list_call joined join_call listed old_search_call cut
both-outside = ((refl, refl), (refl, refl), (refl, refl), (refl, refl), (refl, refl))

-- demand 3 speaks of such a path
abbrev pub others_asked : Asked
others_asked = asked_by_test whole apart others tt

pub others_claim : Claim others_asked (in_turn others_asked) (owed others_asked (in_turn others_asked))
others_claim = two_claim others_asked (none_by_test whole apart others tt) (in_turn others_asked) (lit≤ tt)
