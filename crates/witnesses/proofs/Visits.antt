-- Visits, by computation: document 01's part of site 0 and its own path among others, refused ones too; the request's promise of that visit; every
-- way to 17, with a bundle on the other side of the line; and the order of the checks. Assumes nothing.
use mathlib.Core.Path.{◌≡◌, refl}
use mathlib.Core.List.{List, [], ◌∷◌, ◌++◌, flatten}
use Prim.Native.Nat.{ℕ}
use lib.Dec.{lit≤}
use lib.ListN.{get_or, replicate}
use Rattle.sets.specs.Reach.{closure}
use Rattle.files.specs.Word.{bytes_of}
use Rattle.files.specs.Outcome.{refused, accepted, padded}
use Rattle.files.specs.Groups.{our_groups}
use Rattle.path_bundles.specs.Split.{split, split_check}
use Rattle.path_bundles.specs.Packed.{byte_at}
use Rattle.walks.specs.Product.{step_in, reached}
use Rattle.first_replies.specs.FirstReply.{reported, door_words, first_reply}
use Rattle.site_first.specs.First.{first_reply_call}
use Rattle.visits.specs.Whole.{shortest, whole_number}
use Rattle.four_replies.specs.Four.{visit_paths, four_replies, four_replies_grouped, four_replies_call}
use Rattle.four_replies.specs.Visit.{At}
use Rattle.four_replies.proofs.Promised.{request_6}
use Rattle.table.specs.Table.{path, part0, first0, b}

-- four outputs that are just long enough
abbrev outs : List ℕ
outs = 16384 ∷ 16384 ∷ 16384 ∷ 16384 ∷ []

-- the empty word; the same under a header of another kind; a path of 65 words
abbrev pub empty_word : List ℕ
empty_word = 0x40000002 ∷ 0x60000000 ∷ []

abbrev pub other_kind : List ℕ
other_kind = 0x10000002 ∷ 0x60000000 ∷ []

unfoldable pub long : List ℕ
long = 0x40100041 ∷ 0x50005005 ∷ replicate 63 0x60000003

abbrev bundle : List ℕ
bundle = other_kind ++ path ++ long

-- a refused path, document 01's own with its reply, another refused one, and nothing: 3, 0, 2 and 0 in their bytes
visited : (four_replies outs 32768 (b part0) (b bundle) ≡ refused 3 ∷ accepted first0 ∷ refused 2 ∷ accepted [] ∷ [])
    × ((four_replies_call outs 32768 (b part0) (b bundle)).numbers ≡ 0x00020003)
    × (split visit_paths (b bundle) ≡ b other_kind ∷ b path ∷ b long ∷ [])
unfolding long flatten closure step_in reached reported door_words first_reply first_reply_call four_replies
visited = (refl, refl, refl)

-- so the promise speaks of this visit: its second path is document 01's
whole_read : whole_number visit_paths (shortest outs) 32768 (b part0) (b bundle) ≡ 0
unfolding long
whole_read = refl

second : At (four_replies_call outs 32768 (b part0) (b bundle)) 1 0 (padded 16384 first0)
unfolding long flatten closure step_in reached reported door_words first_reply first_reply_call
second = (request_6.four outs 32768 (b part0) (b bundle)).path whole_read 1 (lit≤ tt) (lit≤ tt)

-- and has there what it has behind the empty word, without the others
beside : At (four_replies_call outs 32768 (b part0) (b bundle)) 1 (byte_at 1 (four_replies_call outs 32768 (b part0) (b (empty_word ++ path))).numbers)
    (get_or (four_replies_call outs 32768 (b part0) (b (empty_word ++ path))).outputs 1 [])
unfolding long
beside = request_6.alone outs 32768 (b part0) (b bundle) (b (empty_word ++ path)) whole_read refl 1 (lit≤ tt) refl

-- both sides of each line of 17
seventeen :
    -- no bytes; one file, and bytes that are not in fours behind it
    (split_check visit_paths [] ≡ 17)
    × (split_check visit_paths (b empty_word) ≡ 0)
    × (split_check visit_paths (b empty_word ++ 0 ∷ []) ≡ 17)
    × (split_check visit_paths (b empty_word ++ 1 ∷ 0 ∷ 0 ∷ []) ≡ 17)
    -- a length of 0, in front and behind; past the end by a word; a lone header is a file
    × (split_check visit_paths (b (0x40000000 ∷ [])) ≡ 17)
    × (split_check visit_paths (b (empty_word ++ 0x40000000 ∷ [])) ≡ 17)
    × (split_check visit_paths (b (empty_word ++ 0x40000002 ∷ [])) ≡ 17)
    × (split_check visit_paths (b (empty_word ++ 0x40000001 ∷ [])) ≡ 0)
    -- four files, and five; eight of eight
    × (split_check visit_paths (b (flatten (replicate 4 empty_word))) ≡ 0)
    × (split_check visit_paths (b (flatten (replicate 5 empty_word))) ≡ 17)
    × (split_check 8 (b (flatten (replicate 8 empty_word))) ≡ 0)
    -- only lengths are looked at: other kinds, and a file longer than a path may be
    × (split_check visit_paths (b (other_kind ++ 0xf0000001 ∷ [])) ≡ 0)
    × (split_check visit_paths (b long) ≡ 0)
unfolding long flatten
seventeen = (refl, refl, refl, refl, refl, refl, refl, refl, refl, refl, refl, refl, refl)

-- each number of the whole stands at every output, and comes ahead of the next: 1 for any output, the part's, 16, 17
ordered :
    (four_replies (16384 ∷ 16384 ∷ 16384 ∷ 16383 ∷ []) 32768 [] [] ≡ refused 1 ∷ refused 1 ∷ refused 1 ∷ refused 1 ∷ [])
    × (four_replies outs 32767 [] [] ≡ refused 1 ∷ refused 1 ∷ refused 1 ∷ refused 1 ∷ [])
    × (four_replies outs 32768 (b (0x20000001 ∷ [])) [] ≡ refused 3 ∷ refused 3 ∷ refused 3 ∷ refused 3 ∷ [])
    × (four_replies_grouped outs 32768 (b (0x20000001 ∷ [])) [] [] ≡ refused 3 ∷ refused 3 ∷ refused 3 ∷ refused 3 ∷ [])
    × (four_replies_grouped outs 32768 (b part0) [] [] ≡ refused 16 ∷ refused 16 ∷ refused 16 ∷ refused 16 ∷ [])
    × (four_replies_grouped outs 32768 (b part0) (bytes_of our_groups) [] ≡ refused 17 ∷ refused 17 ∷ refused 17 ∷ refused 17 ∷ [])
    × (four_replies outs 32768 (b part0) [] ≡ refused 17 ∷ refused 17 ∷ refused 17 ∷ refused 17 ∷ [])
unfolding four_replies four_replies_grouped
ordered = (refl, refl, refl, refl, refl, refl, refl)
