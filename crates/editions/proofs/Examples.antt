-- Triples and wholes word by word, each side of every line between numbers, and a plant that goes through both calls, back and forth. Assumes
-- nothing.
use mathlib.Core.Path.{◌≡◌, refl}
use mathlib.Core.List.{List, [], ◌∷◌, flatten}
use Prim.Native.Nat.{ℕ}
use Rattle.files.specs.Word.{bytes_of}
use Rattle.files.specs.Outcome.{refused, accepted}
use Rattle.triples.specs.Triple.{triples_check, whole_of, say_check, plain}
use Rattle.from_triples.specs.From.{from_call}
use Rattle.to_triples.specs.To.{to_call, leaves_counted}

-- document 01's whole, and its triples in some order, one of them twice
abbrev whole : List ℕ
whole = 0x10000007 ∷ 0x20030001 ∷ 0x30050002 ∷ 0x20000002 ∷ 0x30060003 ∷ 0x20000003 ∷ 0x30050002 ∷ []

abbrev triples : List ℕ
triples = 1 ∷ 3 ∷ 5 ∷ 2 ∷ 1 ∷ 5 ∷ 2 ∷ 2 ∷ 6 ∷ 3 ∷ 1 ∷ 5 ∷ 2 ∷ []

abbrev sorted : List ℕ
sorted = 1 ∷ 1 ∷ 5 ∷ 2 ∷ 2 ∷ 6 ∷ 3 ∷ 3 ∷ 5 ∷ 2 ∷ []

-- so what `Request8` asks for is there, both ways
both_ways :
    (from_call 16384 32768 (bytes_of triples) ≡ accepted whole) × (to_call 49144 32768 (bytes_of whole) ≡ accepted sorted)
    × (from_call 16384 32768 (bytes_of sorted) ≡ accepted whole) × ((leaves_counted 49144 32768 (bytes_of whole)).lent ≡ 10)
unfolding from_call to_call whole_of flatten
both_ways = (refl, refl, refl, refl)

-- a root that is no end, a lone root word, a loop, the largest words, and targets of one label
from-others :
    (from_call 16384 32768 (bytes_of (7 ∷ 1 ∷ 5 ∷ 2 ∷ [])) ≡ accepted (0x10000005 ∷ 0x20000001 ∷ 0x30050002 ∷ 0x20000002 ∷ 0x20030007 ∷ []))
    × (from_call 16384 32768 (bytes_of (7 ∷ [])) ≡ accepted (0x10000002 ∷ 0x20030007 ∷ []))
    × (from_call 16384 32768 (bytes_of (0 ∷ 2 ∷ 5 ∷ 2 ∷ [])) ≡ accepted (0x10000004 ∷ 0x20030000 ∷ 0x20000002 ∷ 0x30050002 ∷ []))
    × (from_call 16384 32768 (bytes_of (65535 ∷ 65535 ∷ 4095 ∷ 65535 ∷ [])) ≡ accepted (0x10000003 ∷ 0x2003ffff ∷ 0x3fffffff ∷ []))
    × (from_call 16384 32768 (bytes_of (1 ∷ 1 ∷ 5 ∷ 4 ∷ 1 ∷ 6 ∷ 1 ∷ 1 ∷ 5 ∷ 3 ∷ []))
    ≡ accepted (0x10000007 ∷ 0x20030001 ∷ 0x30050003 ∷ 0x30050004 ∷ 0x30060001 ∷ 0x20000003 ∷ 0x20000004 ∷ []))
unfolding from_call whole_of flatten
from-others = (refl, refl, refl, refl, refl)

-- another site and further doors are not kept; a lone root comes back as its word
to-others :
    (plain (0x13000004 ∷ 0x20030001 ∷ 0x30050002 ∷ 0x20010002 ∷ []) ≡ 0x10000004 ∷ 0x20030001 ∷ 0x30050002 ∷ 0x20000002 ∷ [])
    × (to_call 49144 32768 (bytes_of (0x13000004 ∷ 0x20030001 ∷ 0x30050002 ∷ 0x20010002 ∷ [])) ≡ accepted (1 ∷ 1 ∷ 5 ∷ 2 ∷ []))
    × (to_call 49144 32768 (bytes_of (0x10000002 ∷ 0x20030007 ∷ [])) ≡ accepted (7 ∷ []))
unfolding to_call
to-others = (refl, refl, refl)

-- 1, 2, 18, each ahead of the next: both counts beside one more than a multiple of three, and each field's both sides
from-refused :
    (from_call 16383 32768 [] ≡ refused 1) × (from_call 16384 32767 [] ≡ refused 1) × (from_call 16384 32768 [] ≡ refused 2)
    × (from_call 16384 32768 (0 ∷ []) ≡ refused 2) × (from_call 16384 32768 (bytes_of (1 ∷ 2 ∷ [])) ≡ refused 18)
    × (triples_check (1 ∷ 2 ∷ 3 ∷ []) ≡ 18) × (triples_check (65536 ∷ []) ≡ 18) × (triples_check (1 ∷ 65536 ∷ 5 ∷ 2 ∷ []) ≡ 18)
    × (triples_check (1 ∷ 1 ∷ 4096 ∷ 2 ∷ []) ≡ 18) × (triples_check (1 ∷ 1 ∷ 4095 ∷ 65536 ∷ []) ≡ 18)
    × (triples_check (1 ∷ 1 ∷ 5 ∷ 2 ∷ 1 ∷ 4096 ∷ 2 ∷ []) ≡ 18) × (triples_check (65535 ∷ 65535 ∷ 4095 ∷ 65535 ∷ []) ≡ 0)
unfolding from_call
from-refused = (refl, refl, refl, refl, refl, refl, refl, refl, refl, refl, refl, refl)

-- 1, 2, then 19 behind the whole's own: a node with no link, a stopped one, and 8 ahead of it; a loop is a link, and so is a link in or out
to-refused :
    (to_call 49143 32768 [] ≡ refused 1) × (to_call 49144 32768 [] ≡ refused 2)
    × (to_call 49144 32768 (bytes_of (0x10000003 ∷ 0x20030001 ∷ 0x20000002 ∷ [])) ≡ refused 19)
    × (to_call 49144 32768 (bytes_of (0x10000004 ∷ 0x20030001 ∷ 0x30050002 ∷ 0x20040002 ∷ [])) ≡ refused 19)
    × (to_call 49144 32768 (bytes_of (0x10000004 ∷ 0x20030001 ∷ 0x30050003 ∷ 0x20000002 ∷ [])) ≡ refused 8)
    × ((leaves_counted 49144 32768 (bytes_of (0x10000003 ∷ 0x20030001 ∷ 0x20000002 ∷ []))).lent ≡ 0)
    × (say_check (0x10000004 ∷ 0x20030001 ∷ 0x20000002 ∷ 0x30050002 ∷ []) ≡ 0) × (say_check (0x10000004 ∷ 0x20030001 ∷ 0x30050002 ∷ 0x20000002 ∷ []) ≡ 0)
    × (say_check (0x10000004 ∷ 0x20030001 ∷ 0x20000002 ∷ 0x30050001 ∷ []) ≡ 0)
unfolding to_call
to-refused = (refl, refl, refl, refl, refl, refl, refl, refl, refl)
