-- Believed. Document 01's end-to-end files and rows 5 to 9 of its refusals, as one table. proofs/Table.antt proves it.
use Rattle.std.specs.Prelude.{ℕ, ◌≡◌, List, [], ◌∷◌, ◌++◌}
use Rattle.files.specs.Word.{bytes_of}
use Rattle.files.specs.Outcome.{refused, accepted}
use Rattle.site_first.specs.First.{first_reply_call}
use Rattle.site_second.specs.Second.{second_reply_call}
use Rattle.hub_calls.specs.CallList.{call_list_call}
use Rattle.hub_join.specs.Join.{join_call}
use Rattle.old.specs.Old.{old_search_call}
use Rattle.cutter.specs.Cut.{cut_call}

abbrev pub whole : List ℕ
whole = 0x10000007 ∷ 0x20030001 ∷ 0x30050002 ∷ 0x20000002 ∷ 0x30060003 ∷ 0x20000003 ∷ 0x30050002 ∷ []

abbrev pub path : List ℕ
path = 0x40300007 ∷ 0x50005005 ∷ 0x50006006 ∷ 0x50005005 ∷ 0x60000001 ∷ 0x60000003 ∷ 0x60000001 ∷ []

abbrev pub part0 : List ℕ
part0 = 0x10000005 ∷ 0x20030001 ∷ 0x30050002 ∷ 0x20010003 ∷ 0x30050002 ∷ []

abbrev pub part1 : List ℕ
part1 = 0x11000003 ∷ 0x20010002 ∷ 0x30060003 ∷ []

abbrev pub first0 : List ℕ
first0 =
    0x7030000b ∷ 0x80010001 ∷ 0x90000000 ∷ 0xa0000021 ∷ 0x90000002 ∷ 0xa0000023 ∷ 0x80000003 ∷ 0x90000000 ∷ 0xa0000021 ∷ 0x90000002 ∷ 0xa0000023 ∷ []

abbrev pub first1 : List ℕ
first1 = 0x71300006 ∷ 0x80000002 ∷ 0x90000001 ∷ 0xa0000032 ∷ 0x90000003 ∷ 0xa0000032 ∷ []

abbrev pub calls : List ℕ
calls = 0xb0300005 ∷ 0xc0000010 ∷ 0xc0000021 ∷ 0xc0000023 ∷ 0xc0000032 ∷ []

abbrev pub second0 : List ℕ
second0 = 0xd0300001 ∷ []

abbrev pub second1 : List ℕ
second1 = 0xd1300002 ∷ 0xe0000002 ∷ []

abbrev pub final : List ℕ
final = 0xf0000002 ∷ 0xe0000002 ∷ []

-- a file's bytes
abbrev pub b : List ℕ → List ℕ
b ws = bytes_of ws

abbrev pub Table : Type 0
Table =
    (cut_call 16384 32768 (b whole) (0 ∷ 1 ∷ 0 ∷ []) 0 ≡ accepted part0)
    × (cut_call 16384 32768 (b whole) (0 ∷ 1 ∷ 0 ∷ []) 1 ≡ accepted part1)
    × (first_reply_call 16384 32768 (b part0) (b path) ≡ accepted first0)
    × (first_reply_call 16384 32768 (b part1) (b path) ≡ accepted first1)
    × (call_list_call 16384 32768 (b (first0 ++ first1)) ≡ accepted calls)
    × (second_reply_call 16384 32768 (b part0) (b path) (b calls) ≡ accepted second0)
    × (second_reply_call 16384 32768 (b part1) (b path) (b calls) ≡ accepted second1)
    × (join_call 32768 32768 (b (second0 ++ second1)) ≡ accepted final)
    × (old_search_call 32768 32768 (b whole) (b path) ≡ accepted final)
    × (first_reply_call 16384 32768 (b (0x10000002 ∷ 0x30050002 ∷ [])) (b path) ≡ refused 5)
    × (first_reply_call 16384 32768 (b (0x10000003 ∷ 0x20000002 ∷ 0x20000002 ∷ [])) (b path) ≡ refused 6)
    × (first_reply_call 16384 32768 (b (0x10000002 ∷ 0x20020001 ∷ [])) (b path) ≡ refused 7)
    × (old_search_call 32768 32768 (b (0x10000003 ∷ 0x20030001 ∷ 0x30050002 ∷ [])) (b path) ≡ refused 8)
    × (first_reply_call 16384 32768 (b part0) (b (0x40000002 ∷ 0x60000003 ∷ [])) ≡ refused 9)
