-- Desks that share one reply, by computation: document 01's part of site 0 and its own path among others, refused ones too; the request's promise of
-- these desks, at a place of their own among accepted paths; and the order of the checks. Assumes nothing.
use mathlib.Core.Path.{◌≡◌, refl}
use mathlib.Core.List.{List, [], ◌∷◌, ◌++◌, flatten}
use Prim.Native.Nat.{ℕ}
use lib.Dec.{lit≤}
use lib.ListN.{replicate}
use Rattle.sets.specs.Sets.{Mem, here, there}
use Rattle.sets.specs.Reach.{closure}
use Rattle.files.specs.Outcome.{refused, accepted}
use Rattle.files.specs.Word.{bytes_of}
use Rattle.files.specs.Groups.{our_groups}
use Rattle.path_bundles.specs.Split.{split_check}
use Rattle.walks.specs.Product.{step_in, reached}
use Rattle.first_replies.specs.FirstReply.{reported, door_words, first_reply}
use Rattle.site_first.specs.First.{first_reply_call}
use Rattle.visits.specs.Whole.{whole_number}
use Rattle.choices.specs.Choice.{numbers}
use Rattle.choices.specs.Shared.{shared, Served}
use Rattle.eight_replies.specs.Eight.{desk_count, eight_replies, eight_replies_call, eight_replies_grouped_call, eight_replies_grouped}
use Rattle.eight_replies.specs.Asking.{Accepted}
use Rattle.eight_replies.proofs.Promised.{request_11}
use Rattle.table.specs.Table.{path, part0, first0, b}
use Rattle.witnesses.proofs.Visits.{empty_word, other_kind, long}

-- the empty word's reply from this part has two door words and no row
abbrev doors_alone : List ℕ
doors_alone = 0x70000003 ∷ 0x80010001 ∷ 0x80000003 ∷ []

abbrev bundle : List ℕ
bundle = empty_word ++ other_kind ++ path ++ long

-- a short reply, a refused path, document 01's own, another refused one, and nothing: the two replies stand one after another
shared_by : (eight_replies 16384 32768 (b part0) (b bundle) ≡ accepted doors_alone ∷ refused 3 ∷ accepted first0 ∷ refused 2 ∷ replicate 4 (accepted []))
    × ((eight_replies_call 16384 32768 (b part0) (b bundle)).number ≡ 0x02000300)
    × (shared (eight_replies 16384 32768 (b part0) (b bundle)) ≡ doors_alone ++ first0)
unfolding long flatten closure step_in reached reported door_words first_reply first_reply_call numbers eight_replies
shared_by = (refl, refl, refl)

-- the promise speaks of these desks: the third finds document 01's first reply
whole_read : whole_number desk_count 16384 32768 (b part0) (b bundle) ≡ 0
unfolding long
whole_read = refl

third : Served (eight_replies_call 16384 32768 (b part0) (b bundle)) 2 first0
unfolding long flatten closure step_in reached reported door_words first_reply first_reply_call
third = (request_11.eight 16384 32768 (b part0) (b bundle)).short whole_read 2 (lit≤ tt) first0 refl (lit≤ tt)

-- and so at any place among accepted paths: here the second of three
among : Served (eight_replies_call 16384 32768 (b part0) (flatten (b empty_word ∷ b path ∷ b empty_word ∷ []))) 1 first0
unfolding flatten closure step_in reached reported door_words first_reply first_reply_call
among = request_11.eighth 16384 32768 (b part0) (b empty_word ∷ []) (b empty_word ∷ []) (b path) (lit≤ tt) each first0 refl (lit≤ tt)
  where
    each : (f : List ℕ) → Mem f (b empty_word ∷ b path ∷ b empty_word ∷ []) → Accepted f
    each f (here e) = rw e refl
    each f (there (here e)) = rw e refl
    each f (there (there (here e))) = rw e refl
    each f (there (there (there m))) = elim m [ ]

-- eight files, and nine
nine : (split_check desk_count (b (flatten (replicate 8 empty_word))) ≡ 0) × (split_check desk_count (b (flatten (replicate 9 empty_word))) ≡ 17)
unfolding flatten
nine = (refl, refl)

-- each number of the whole stands in every byte, and comes ahead of the next: 1, the part's, 16, 17
ordered :
    ((eight_replies_call 16383 32768 [] []).number ≡ 0x0101010101010101)
    × ((eight_replies_call 16384 32767 [] []).number ≡ 0x0101010101010101)
    × ((eight_replies_call 16384 32768 (b (0x20000001 ∷ [])) []).number ≡ 0x0303030303030303)
    × ((eight_replies_grouped_call 16384 32768 (b (0x20000001 ∷ [])) [] []).number ≡ 0x0303030303030303)
    × ((eight_replies_grouped_call 16384 32768 (b part0) [] []).number ≡ 0x1010101010101010)
    × ((eight_replies_grouped_call 16384 32768 (b part0) (bytes_of our_groups) []).number ≡ 0x1111111111111111)
    × ((eight_replies_call 16384 32768 (b part0) []).number ≡ 0x1111111111111111)
unfolding numbers eight_replies eight_replies_grouped
ordered = (refl, refl, refl, refl, refl, refl, refl)
