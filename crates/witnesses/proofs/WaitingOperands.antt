-- Operands that wait (document 02, request 9), by computation: eight pass, the ninth gives 9 at its word, and what has eight waiting is read as with
-- sixteen. Assumes nothing.
use mathlib.Core.Path.{◌≡◌, refl}
use mathlib.Core.List.{List, [], ◌∷◌, ◌++◌, flatten}
use Prim.Native.Nat.{ℕ}
use lib.Dec.{lit≤}
use Rattle.sets.specs.Reach.{closure}
use Rattle.files.specs.Limits.{most_waiting}
use Rattle.files.specs.Outcome.{refused, accepted}
use Rattle.files.specs.Path.{path_check, path_check_by}
use Rattle.expressions.specs.Waiting.{SameBy}
use Rattle.expressions.proofs.Waiting.{path_more, as_before}
use Rattle.walks.specs.Product.{step_in, reached, answers}
use Rattle.first_replies.specs.FirstReply.{reported, door_words, first_reply}
use Rattle.site_first.specs.First.{first_reply_call}
use Rattle.site_second.specs.Second.{second_reply, second_reply_call}
use Rattle.hub_calls.specs.CallList.{called, call_list, call_list_call}
use Rattle.hub_join.specs.Join.{joined, join_call}
use Rattle.old.specs.Old.{listed, old_search_call}
use Rattle.cutter.specs.Cut.{cut}
use Rattle.demands.specs.Question.{ask}
use Rattle.demands.specs.Demand.{Asked, Claim}
use Rattle.demands.proofs.Owed.{owed}
use Rattle.table.specs.Table.{whole, path, part0, calls, final, b}
use Rattle.witnesses.proofs.Asked.{asked_by_test, none_by_test, in_turn, two_claim}
use Rattle.witnesses.proofs.Vectors.{on_path, labels, empties, ors, stars}
use Rattle.witnesses.proofs.BothSearches.{OwnFiles, BothGive, apart}

-- nine labels, all waiting before the first or
abbrev pub nine : List ℕ
nine = 0x40900012 ∷ labels 9 ++ ors 8

pub waiting-words :
    -- eight wait, and nine: labels, and the empty word like them
    (on_path (0x40800010 ∷ labels 8 ++ ors 7) ≡ accepted (0x70800001 ∷ []))
    × (on_path nine ≡ refused 9)
    × (on_path (0x40700010 ∷ labels 7 ++ empties 1 ++ ors 7) ≡ accepted (0x70700001 ∷ []))
    × (on_path (0x40800012 ∷ labels 8 ++ empties 1 ++ ors 8) ≡ refused 9)
    × (on_path (0x40000010 ∷ empties 8 ++ ors 7) ≡ accepted (0x70000001 ∷ []))
    × (on_path (0x40000012 ∷ empties 9 ++ ors 8) ≡ refused 9)
    -- operators do not add to eight that wait, and eight may wait more than once
    × (on_path (0x40800011 ∷ labels 8 ++ stars 1 ++ ors 7) ≡ accepted (0x70800001 ∷ []))
    × (on_path (0x40f0001e ∷ labels 8 ++ ors 7 ++ labels 7 ++ ors 7) ≡ accepted (0x70f00001 ∷ []))
    -- a wrong word behind the ninth does not show, one ahead of it does, and the ninth itself is wrong first
    × (on_path (0x4090000b ∷ labels 9 ++ 0x60000004 ∷ []) ≡ refused 9)
    × (on_path (0x4090000b ∷ labels 8 ++ 0x60000004 ∷ labels 1) ≡ refused 5)
    × (on_path (0x4080000a ∷ labels 8 ++ 0x50005006 ∷ []) ≡ refused 5)
unfolding flatten closure step_in reached answers reported door_words first_reply first_reply_call on_path labels empties ors stars
waiting-words = (refl, refl, refl, refl, refl, refl, refl, refl, refl, refl, refl)

-- every call that reads a path refuses the ninth
pub waiting-calls :
    (first_reply_call 16384 32768 (b part0) (b nine) ≡ refused 9)
    × (second_reply_call 16384 32768 (b part0) (b nine) (b calls) ≡ refused 9)
    × (old_search_call 32768 32768 (b whole) (b nine) ≡ refused 9)
unfolding flatten closure step_in reached answers reported door_words first_reply first_reply_call second_reply second_reply_call listed old_search_call labels ors
waiting-calls = (refl, refl, refl)

-- where sixteen may wait, the nine do; where eight may, that is the 9
nine_before : path_check_by 16 nine ≡ 0
unfolding labels ors
nine_before = refl

pub nine_now : path_check nine ≡ 9
unfolding labels ors
nine_now = path_more most_waiting 16 (lit≤ tt) nine nine_before (λ t. t)

-- document 01's own path with five empty words behind its first label, all waiting: eight with it
abbrev pub eight : List ℕ
eight =
    0x40300011 ∷ 0x50005005 ∷ 0x60000000 ∷ 0x60000000 ∷ 0x60000000 ∷ 0x60000000 ∷ 0x60000000 ∷ 0x50006006 ∷ 0x50005005 ∷ 0x60000001 ∷ 0x60000003
    ∷ 0x60000001 ∷ 0x60000001 ∷ 0x60000001 ∷ 0x60000001 ∷ 0x60000001 ∷ 0x60000001 ∷ []

pub eight_before : SameBy most_waiting 16 eight
eight_before = as_before eight tt

pub path_before : SameBy most_waiting 16 path
path_before = as_before path tt

-- so every file is the document's own, and both searches give its list
pub eight_files : OwnFiles eight
unfolding flatten closure step_in reached answers reported door_words first_reply first_reply_call second_reply second_reply_call
eight_files = (refl, refl, refl, refl)

pub both_eight : BothGive whole apart eight final
unfolding ask flatten closure step_in reached answers reported door_words first_reply first_reply_call second_reply second_reply_call called call_list call_list_call joined join_call listed old_search_call cut
both_eight = (refl, refl)

-- demand 3 speaks of such a path
abbrev pub eight_asked : Asked
eight_asked = asked_by_test whole apart eight tt

pub eight_claim : Claim eight_asked (in_turn eight_asked) (owed eight_asked (in_turn eight_asked))
eight_claim = two_claim eight_asked (none_by_test whole apart eight tt) (in_turn eight_asked) (lit≤ tt)
