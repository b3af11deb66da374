-- Points of document 01 that its own table leaves unpinned, by computation: for each a file on either side of the line. Assumes nothing.
use mathlib.Core.Path.{◌≡◌, refl}
use mathlib.Core.Bool.{true, false}
use mathlib.Core.List.{List, [], ◌∷◌, ◌++◌, map, flatten}
use Prim.Native.Nat.{ℕ, zero, suc}
use lib.ListN.{replicate}
use Rattle.sets.specs.Reach.{closure}
use Rattle.files.specs.Outcome.{Outcome, refused, accepted}
use Rattle.expressions.specs.Labels.{holds}
use Rattle.walks.specs.Product.{step_in, reached, answers}
use Rattle.first_replies.specs.FirstReply.{reported, door_words, first_reply}
use Rattle.site_first.specs.First.{first_reply_call}
use Rattle.site_second.specs.Second.{second_reply, second_reply_call}
use Rattle.hub_calls.specs.CallList.{called, call_list, call_list_call}
use Rattle.hub_join.specs.Join.{joined, join_call}
use Rattle.old.specs.Old.{listed, old_search_call}
use Rattle.cutter.specs.Cut.{cut, cut_call}
use Rattle.table.specs.Table.{whole, path, part0, calls, b}

-- which labels a label word holds: both ends, and one past each
groups : (map (holds 0x51000000) (0 ∷ 4095 ∷ 4096 ∷ []) ≡ true ∷ true ∷ false ∷ [])
    × (map (holds 0x51000001) (0 ∷ 1023 ∷ 1024 ∷ []) ≡ true ∷ true ∷ false ∷ [])
    × (map (holds 0x51000002) (0 ∷ 255 ∷ 256 ∷ []) ≡ true ∷ true ∷ false ∷ [])
    × (map (holds 0x51000003) (1023 ∷ 1024 ∷ 1535 ∷ 1536 ∷ []) ≡ false ∷ true ∷ true ∷ false ∷ [])
    × (map (holds 0x51000004) (1535 ∷ 1536 ∷ 1791 ∷ 1792 ∷ []) ≡ false ∷ true ∷ true ∷ false ∷ [])
    × (map (holds 0x51000005) (1791 ∷ 1792 ∷ 2047 ∷ 2048 ∷ []) ≡ false ∷ true ∷ true ∷ false ∷ [])
    × (map (holds 0x51000006) (2047 ∷ 2048 ∷ 3071 ∷ 3072 ∷ []) ≡ false ∷ true ∷ true ∷ false ∷ [])
    × (map (holds 0x51000007) (4031 ∷ 4032 ∷ 4095 ∷ 4096 ∷ []) ≡ false ∷ true ∷ true ∷ false ∷ [])
    × (map (holds 0x50006005) (4 ∷ 5 ∷ 6 ∷ 7 ∷ []) ≡ false ∷ true ∷ true ∷ false ∷ [])
groups = (refl, refl, refl, refl, refl, refl, refl, refl, refl)

-- a path, asked of a lone header
unfoldable pub on_path : List ℕ → Outcome
on_path p = first_reply_call 16384 32768 (b (0x10000001 ∷ [])) (b p)

-- n label words, empty words, ors, stars
unfoldable pub labels : ℕ → List ℕ
labels n = replicate n 0x50005005

unfoldable pub empties : ℕ → List ℕ
empties n = replicate n 0x60000000

unfoldable pub ors : ℕ → List ℕ
ors n = replicate n 0x60000002

unfoldable pub stars : ℕ → List ℕ
stars n = replicate n 0x60000003

-- an or of the label word w with itself, n times: each or is right behind its second operand, so two wait at most
unfoldable pub or_of : ℕ → ℕ → List ℕ
or_of w zero = w ∷ []
or_of w (suc n) = or_of w n ++ w ∷ ors 1

paths :
    -- 64 words, and 65
    (on_path (0x40100040 ∷ labels 1 ++ stars 62) ≡ accepted (0x70100001 ∷ []))
    × (on_path (0x40100041 ∷ labels 1 ++ stars 63) ≡ refused 2)
    -- 15 labels, and 16
    × (on_path (0x40f0001e ∷ or_of 0x50005005 14) ≡ accepted (0x70f00001 ∷ []))
    × (on_path (0x40f00020 ∷ or_of 0x50005005 15) ≡ refused 9)
    -- n is counted at the end: a wrong word behind the label words shows first
    × (on_path (0x40200002 ∷ labels 1) ≡ refused 9)
    × (on_path (0x40000003 ∷ labels 1 ++ 0x60000004 ∷ []) ≡ refused 5)
    -- an operand missing shows at its word, two left at the end
    × (on_path (0x40100004 ∷ labels 1 ++ 0x60000001 ∷ 0x60000004 ∷ []) ≡ refused 9)
    × (on_path (0x40200003 ∷ labels 2) ≡ refused 9)
    × (on_path (0x40000001 ∷ []) ≡ refused 9)
    -- a low end above its high end, sort 3, a group's and an operator's zero bit
    × (on_path (0x40100002 ∷ 0x50005006 ∷ []) ≡ refused 5)
    × (on_path (0x40100002 ∷ 0x53000000 ∷ []) ≡ refused 5)
    × (on_path (0x40100002 ∷ 0x51000008 ∷ []) ≡ refused 5)
    × (on_path (0x40100002 ∷ 0x51000007 ∷ []) ≡ accepted (0x70100001 ∷ []))
    × (on_path (0x40000002 ∷ 0x60000004 ∷ []) ≡ refused 5)
    -- a site in a path's header is a zero bit
    × (on_path (0x41000002 ∷ 0x60000000 ∷ []) ≡ refused 3)
    -- the empty word lists the root alone
    × (old_search_call 32768 32768 (b whole) (b (0x40000002 ∷ 0x60000000 ∷ [])) ≡ accepted (0xf0000002 ∷ 0xe0000001 ∷ []))
unfolding flatten closure step_in reached answers reported door_words first_reply first_reply_call listed old_search_call on_path labels ors stars or_of
paths = (refl, refl, refl, refl, refl, refl, refl, refl, refl, refl, refl, refl, refl, refl, refl, refl)

-- Parts: each word's checks before the next word's; and the order of the checks at one word
on_part : List ℕ → Outcome
on_part f = first_reply_call 16384 32768 (b f) (b (0x40000002 ∷ 0x60000000 ∷ []))

on_whole : List ℕ → Outcome
on_whole f = old_search_call 32768 32768 (b f) (b (0x40000002 ∷ 0x60000000 ∷ []))

parts :
    -- an early 6 before a late 5; 5 before 6, and 6 before 7, at one word
    (on_part (0x10000004 ∷ 0x20000002 ∷ 0x20000001 ∷ 0x00000000 ∷ []) ≡ refused 6)
    × (on_part (0x10000003 ∷ 0x20000002 ∷ 0x20100001 ∷ []) ≡ refused 5)
    × (on_part (0x10000003 ∷ 0x20000002 ∷ 0x20020001 ∷ []) ≡ refused 6)
    -- by number alone, and edges anew at each node; an edge twice
    × (on_part (0x10000003 ∷ 0x20030001 ∷ 0x20000002 ∷ []) ≡ accepted (0x70000002 ∷ 0x80010001 ∷ []))
    × (on_part (0x10000005 ∷ 0x20000001 ∷ 0x30060001 ∷ 0x20000002 ∷ 0x30050001 ∷ []) ≡ accepted (0x70000001 ∷ []))
    × (on_part (0x10000004 ∷ 0x20000001 ∷ 0x30060001 ∷ 0x30060001 ∷ []) ≡ refused 6)
    -- a second root shows at its word; none is fine in a part
    × (on_part (0x10000004 ∷ 0x20030001 ∷ 0x20030002 ∷ 0x00000000 ∷ []) ≡ refused 7)
    × (on_part (0x10000002 ∷ 0x20000001 ∷ []) ≡ accepted (0x70000001 ∷ []))
    -- a whole: 7 before 8 at its end
    × (on_whole (0x10000003 ∷ 0x20000001 ∷ 0x30050002 ∷ []) ≡ refused 7)
    × (on_whole (0x10000004 ∷ 0x20000001 ∷ 0x30050002 ∷ 0x20030002 ∷ []) ≡ accepted (0xf0000002 ∷ 0xe0000002 ∷ []))
    -- the bytes, the header and its length
    × (first_reply_call 16384 32768 [] (b path) ≡ refused 2)
    × (first_reply_call 16384 32768 (1 ∷ 0 ∷ 0 ∷ []) (b path) ≡ refused 2)
    × (on_part (0x10100001 ∷ []) ≡ refused 3)
    × (on_part (0x10004001 ∷ []) ≡ refused 3)
    × (on_part (0x20100002 ∷ []) ≡ refused 3)
    × (on_part (0x10000002 ∷ []) ≡ refused 4)
    × (on_part (0x10000000 ∷ []) ≡ refused 4)
    -- the buffers before anything else
    × (first_reply_call 16383 32768 [] [] ≡ refused 1)
    × (first_reply_call 16384 32767 [] [] ≡ refused 1)
    × (old_search_call 32767 32768 (b whole) (b path) ≡ refused 1)
unfolding flatten closure step_in reached answers reported door_words first_reply first_reply_call listed old_search_call on_part on_whole
parts = (refl, refl, refl, refl, refl, refl, refl, refl, refl, refl, refl, refl, refl, refl, refl, refl, refl, refl, refl, refl)

-- Call lists, by themselves and against path and part
on_calls : List ℕ → Outcome
on_calls list = second_reply_call 16384 32768 (b part0) (b path) (b list)

lists :
    -- 10 before 6 at one word; n is the list's own, and 12 comes after the words
    (second_reply_call 16384 32768 (b part0) (b path) (b (0xb0000002 ∷ 0xc0000011 ∷ [])) ≡ refused 10)
    × (on_calls (0xb0200003 ∷ 0xc0000020 ∷ 0xc0000013 ∷ []) ≡ refused 10)
    × (on_calls (0xb0300003 ∷ 0xc0000020 ∷ 0xc0000010 ∷ []) ≡ refused 6)
    × (on_calls (0xb0200002 ∷ 0xc0000010 ∷ []) ≡ refused 12)
    × (on_calls (0xb0300002 ∷ 0xc0100010 ∷ []) ≡ refused 5)
    -- 14: a called node of the part that is no door; others are passed over; a list without the root, and a bare one
    × (second_reply_call 16384 32768 (b (0x10000003 ∷ 0x20030001 ∷ 0x20000003 ∷ [])) (b path) (b (0xb0300002 ∷ 0xc0000032 ∷ [])) ≡ refused 14)
    × (on_calls (0xb0300002 ∷ 0xc0000091 ∷ []) ≡ accepted (0xd0300001 ∷ []))
    × (on_calls (0xb0300002 ∷ 0xc0000032 ∷ []) ≡ accepted (0xd0300001 ∷ []))
    × (on_calls (0xb0300001 ∷ []) ≡ accepted (0xd0300001 ∷ []))
unfolding flatten closure step_in reached answers second_reply second_reply_call on_calls
lists = (refl, refl, refl, refl, refl, refl, refl, refl, refl)

-- Bundles of first replies
unfoldable pub on_firsts : List ℕ → Outcome
on_firsts bundle = call_list_call 16384 32768 (b bundle)

first-bundles :
    -- an empty row before a door, a row, the next file's header and the end, ahead of that word's own number
    (on_firsts (0x70000004 ∷ 0x80010001 ∷ 0x90000000 ∷ 0x80000002 ∷ []) ≡ refused 5)
    × (on_firsts (0x70000004 ∷ 0x80010001 ∷ 0x90000000 ∷ 0x80000000 ∷ []) ≡ refused 5)
    × (on_firsts (0x70100004 ∷ 0x80010001 ∷ 0x90000000 ∷ 0x90000002 ∷ []) ≡ refused 5)
    × (on_firsts (0x70000003 ∷ 0x80010001 ∷ 0x90000000 ∷ 0x00000000 ∷ []) ≡ refused 5)
    × (on_firsts (0x70000003 ∷ 0x80010001 ∷ 0x90000000 ∷ []) ≡ refused 5)
    -- a row before any door, a reach word behind a door
    × (on_firsts (0x70000002 ∷ 0x90000000 ∷ []) ≡ refused 5)
    × (on_firsts (0x70000003 ∷ 0x80010001 ∷ 0xa0000010 ∷ []) ≡ refused 5)
    -- lengths: 0, past the end, over 4,096; 3 before 4
    × (on_firsts (0x70000000 ∷ []) ≡ refused 4)
    × (on_firsts (0x70000002 ∷ []) ≡ refused 4)
    × (on_firsts (0x70001001 ∷ replicate 4096 0) ≡ refused 4)
    × (on_firsts (0x10000000 ∷ []) ≡ refused 3)
    × (on_firsts (0x70000002 ∷ 0x80010001 ∷ 0x00000000 ∷ []) ≡ refused 3)
    -- a second root within one reply shows at its word, across replies over all; no root
    × (on_firsts (0x70000004 ∷ 0x80010001 ∷ 0x80010002 ∷ 0x00000000 ∷ []) ≡ refused 7)
    × (on_firsts (0x70000002 ∷ 0x80010001 ∷ 0x71000002 ∷ 0x80010002 ∷ []) ≡ refused 7)
    × (on_firsts (0x70000002 ∷ 0x80000001 ∷ []) ≡ refused 7)
    -- doors by node, the root bit left out
    × (on_firsts (0x70000003 ∷ 0x80010001 ∷ 0x80000002 ∷ []) ≡ accepted (0xb0000002 ∷ 0xc0000010 ∷ []))
    × (on_firsts (0x70000003 ∷ 0x80010002 ∷ 0x80000001 ∷ []) ≡ refused 6)
    -- 12 before 7 before 13 before 14
    × (on_firsts (0x70000004 ∷ 0x80010001 ∷ 0x90000000 ∷ 0xa0000090 ∷ 0x70000002 ∷ 0x80010001 ∷ []) ≡ refused 12)
    × (on_firsts (0x70000004 ∷ 0x80010001 ∷ 0x90000000 ∷ 0xa0000090 ∷ 0x71100002 ∷ 0x80010001 ∷ []) ≡ refused 12)
    × (on_firsts (0x70000004 ∷ 0x80010001 ∷ 0x90000000 ∷ 0xa0000090 ∷ 0x71000002 ∷ 0x80010001 ∷ []) ≡ refused 7)
    × (on_firsts (0x70000004 ∷ 0x80010001 ∷ 0x90000000 ∷ 0xa0000090 ∷ 0x71000002 ∷ 0x80000001 ∷ []) ≡ refused 13)
    × (on_firsts (0x70000004 ∷ 0x80010001 ∷ 0x90000000 ∷ 0xa0000020 ∷ []) ≡ refused 14)
    -- the rows are closed over: a reach word of state 0 takes part
    × (on_firsts (0x70000006 ∷ 0x80010001 ∷ 0x90000000 ∷ 0xa0000020 ∷ 0x80000002 ∷ 0x80000003 ∷ []) ≡ accepted (0xb0000003 ∷ 0xc0000010 ∷ 0xc0000020 ∷ []))
unfolding flatten closure called call_list call_list_call on_firsts
first-bundles = (refl, refl, refl, refl, refl, refl, refl, refl, refl, refl, refl, refl, refl, refl, refl, refl, refl, refl, refl, refl, refl, refl, refl)

-- Bundles of second replies
second-bundles :
    (join_call 32768 32768 (b (0xd0000001 ∷ [])) ≡ accepted (0xf0000001 ∷ []))
    × (join_call 32768 32768 (b (0xd1000002 ∷ 0xe0000003 ∷ 0xd0000002 ∷ 0xe0000001 ∷ [])) ≡ accepted (0xf0000003 ∷ 0xe0000001 ∷ 0xe0000003 ∷ []))
    -- 12 before 13; a node twice in one file is 6; lengths
    × (join_call 32768 32768 (b (0xd0000002 ∷ 0xe0000001 ∷ 0xd0000002 ∷ 0xe0000001 ∷ [])) ≡ refused 12)
    × (join_call 32768 32768 (b (0xd0000002 ∷ 0xe0000001 ∷ 0xd1000002 ∷ 0xe0000001 ∷ [])) ≡ refused 13)
    × (join_call 32768 32768 (b (0xd0000003 ∷ 0xe0000001 ∷ 0xe0000001 ∷ [])) ≡ refused 6)
    × (join_call 32768 32768 (b (0xd0000002 ∷ 0xe0010001 ∷ [])) ≡ refused 5)
    × (join_call 32768 32768 (b (0xd0000000 ∷ [])) ≡ refused 4)
    × (join_call 32768 32768 (b (0xf0000001 ∷ [])) ≡ refused 3)
unfolding flatten joined join_call
second-bundles = (refl, refl, refl, refl, refl, refl, refl, refl)

-- The cutter: a door that only its own site links to loses its mark, and what another site links to gets one
marked : List ℕ
marked = 0x10000006 ∷ 0x20030001 ∷ 0x30050002 ∷ 0x30050003 ∷ 0x20010002 ∷ 0x20000003 ∷ []

cuts :
    (cut_call 16384 32768 (b marked) (0 ∷ 0 ∷ 1 ∷ []) 0 ≡ accepted (0x10000005 ∷ 0x20030001 ∷ 0x30050002 ∷ 0x30050003 ∷ 0x20000002 ∷ []))
    × (cut_call 16384 32768 (b marked) (0 ∷ 0 ∷ 1 ∷ []) 1 ≡ accepted (0x11000002 ∷ 0x20010003 ∷ []))
    -- an asked site without nodes; a list too short, too long, a byte above 15, the asked site above 15
    × (cut_call 16384 32768 (b marked) (0 ∷ 0 ∷ 1 ∷ []) 5 ≡ accepted (0x15000001 ∷ []))
    × (cut_call 16384 32768 (b marked) (0 ∷ 0 ∷ []) 0 ≡ refused 11)
    × (cut_call 16384 32768 (b marked) (0 ∷ 0 ∷ 1 ∷ 0 ∷ []) 0 ≡ refused 11)
    × (cut_call 16384 32768 (b marked) (0 ∷ 0 ∷ 16 ∷ []) 0 ≡ refused 11)
    × (cut_call 16384 32768 (b marked) (0 ∷ 0 ∷ 15 ∷ []) 15 ≡ accepted (0x1f000002 ∷ 0x20010003 ∷ []))
    × (cut_call 16384 32768 (b marked) (0 ∷ 0 ∷ 1 ∷ []) 16 ≡ refused 11)
unfolding flatten cut cut_call marked
cuts = (refl, refl, refl, refl, refl, refl, refl, refl)

-- Of two inputs the first one's number stands: part or whole, cut list, path, call list; and a call list against the path before that against the
-- part. Each wrong input by itself, then behind another.
orders :
    -- part before path: its words' number, and not the path's 2
    (first_reply_call 16384 32768 (b part0) [] ≡ refused 2)
    × (first_reply_call 16384 32768 (b (0x10000002 ∷ 0x20020001 ∷ [])) [] ≡ refused 7)
    × (second_reply_call 16384 32768 (b (0x10000002 ∷ 0x20020001 ∷ [])) [] [] ≡ refused 7)
    -- whole before path
    × (old_search_call 32768 32768 (b whole) [] ≡ refused 2)
    × (old_search_call 32768 32768 (b (0x10000003 ∷ 0x20030001 ∷ 0x30050002 ∷ [])) [] ≡ refused 8)
    -- path before call list
    × (second_reply_call 16384 32768 (b part0) (b path) [] ≡ refused 2)
    × (second_reply_call 16384 32768 (b part0) (b (0x40000001 ∷ [])) [] ≡ refused 9)
    -- whole before cut list and asked site, which both give 11
    × (cut_call 16384 32768 (b whole) (16 ∷ []) 16 ≡ refused 11)
    × (cut_call 16384 32768 (b (0x10000003 ∷ 0x20030001 ∷ 0x30050002 ∷ [])) (16 ∷ []) 16 ≡ refused 8)
    -- 14 of a called node of the part that is no door, and 12 before it
    × (second_reply_call 16384 32768 (b (0x10000002 ∷ 0x20000003 ∷ [])) (b path) (b (0xb0300002 ∷ 0xc0000032 ∷ [])) ≡ refused 14)
    × (second_reply_call 16384 32768 (b (0x10000002 ∷ 0x20000003 ∷ [])) (b path) (b (0xb0200002 ∷ 0xc0000032 ∷ [])) ≡ refused 12)
unfolding flatten closure step_in reached answers reported door_words first_reply first_reply_call second_reply second_reply_call listed old_search_call cut cut_call
orders = (refl, refl, refl, refl, refl, refl, refl, refl, refl, refl, refl)

-- Limits of size: a header and n zeros, at the limit read as far as the first zero, which is 5, and one word past it not read, which is 2
zeroed : ℕ → ℕ → List ℕ
zeroed h n = b (h ∷ replicate n 0)

limits :
    -- parts, wholes and call lists of 4,096 words
    (first_reply_call 16384 32768 (zeroed 0x10001000 4095) (b path) ≡ refused 5)
    × (first_reply_call 16384 32768 (zeroed 0x10001001 4096) (b path) ≡ refused 2)
    × (second_reply_call 16384 32768 (zeroed 0x10001000 4095) (b path) (b calls) ≡ refused 5)
    × (second_reply_call 16384 32768 (zeroed 0x10001001 4096) (b path) (b calls) ≡ refused 2)
    × (second_reply_call 16384 32768 (b part0) (b path) (zeroed 0xb0301000 4095) ≡ refused 5)
    × (second_reply_call 16384 32768 (b part0) (b path) (zeroed 0xb0301001 4096) ≡ refused 2)
    × (old_search_call 32768 32768 (zeroed 0x10001000 4095) (b path) ≡ refused 5)
    × (old_search_call 32768 32768 (zeroed 0x10001001 4096) (b path) ≡ refused 2)
    × (cut_call 16384 32768 (zeroed 0x10001000 4095) [] 0 ≡ refused 5)
    × (cut_call 16384 32768 (zeroed 0x10001001 4096) [] 0 ≡ refused 2)
    -- bundles of 8,192
    × (call_list_call 16384 32768 (zeroed 0x70001000 8191) ≡ refused 5)
    × (call_list_call 16384 32768 (zeroed 0x70001000 8192) ≡ refused 2)
    × (join_call 32768 32768 (zeroed 0xd0001000 8191) ≡ refused 5)
    × (join_call 32768 32768 (zeroed 0xd0001000 8192) ≡ refused 2)
unfolding flatten closure step_in reached answers reported door_words first_reply first_reply_call second_reply second_reply_call called call_list call_list_call joined join_call listed old_search_call cut cut_call zeroed
limits = (refl, refl, refl, refl, refl, refl, refl, refl, refl, refl, refl, refl, refl, refl)
