-- Small files and the counts on both sides of each line, by computation; document 01's row 15, by the theorem. Assumes nothing.
use mathlib.Core.Path.{◌≡◌, refl}
use mathlib.Core.List.{List, [], ◌∷◌, flatten}
use Prim.Native.Nat.{ℕ, ◌-◌, ◌^◌}
use native.Mathlib.Omega.{arith}
use lib.ListN.{length}
use Rattle.files.specs.Word.{bytes_of}
use Rattle.files.specs.Outcome.{accepted, refused}
use Rattle.site_first.specs.First.{first_reply_call}
use Rattle.dearest.specs.Dearest.{dear_part, dear_path, counts_check}
use Rattle.bounds.specs.Longest.{longest}
use Rattle.bounds.proofs.Dearest.{request_13}

written :
    (dear_part 2 3 ≡ 0x10000009 ∷ 0x20010000 ∷ 0x30000002 ∷ 0x30000003 ∷ 0x30000004 ∷ 0x20010001 ∷ 0x30000002 ∷ 0x30000003 ∷ 0x30000004 ∷ [])
    × (dear_path 1 ≡ 0x40100003 ∷ 0x50fff000 ∷ 0x60000003 ∷ [])
    × (dear_path 3 ≡ 0x40300007 ∷ 0x50fff000 ∷ 0x50fff000 ∷ 0x60000002 ∷ 0x50fff000 ∷ 0x60000002 ∷ 0x60000003 ∷ [])
unfolding flatten dear_part dear_path
written = (refl, refl, refl)

counts :
    -- a zero; 15 labels, and 16
    (counts_check 1 1 1 ≡ 0) × (counts_check 0 1 1 ≡ 21) × (counts_check 1 0 1 ≡ 21) × (counts_check 1 1 0 ≡ 21)
    × (counts_check 1 1 15 ≡ 0) × (counts_check 1 1 16 ≡ 21)
    -- a part of 4,096 words, with one door and with 63; one link more; one door more
    × (counts_check 1 4094 1 ≡ 0) × (counts_check 63 64 1 ≡ 0) × (counts_check 1 4095 1 ≡ 21) × (counts_check 64 64 1 ≡ 21)
    × (counts_check 2047 1 1 ≡ 0) × (counts_check 2048 1 1 ≡ 21)
    -- 65,536 nodes, and one more; and numbers whose sum or product has more than 32 bits
    × (counts_check 1 65535 1 ≡ 21) × (counts_check 1 65536 1 ≡ 21)
    × (counts_check 65536 65535 1 ≡ 21) × (counts_check (2 ^ 31) 2 1 ≡ 21) × (counts_check 2 (2 ^ 31) 1 ≡ 21)
    × (counts_check (2 ^ 32 - 1) (2 ^ 32 - 1) (2 ^ 32 - 1) ≡ 21)
    × (counts_check (2 ^ 32 - 1) 1 1 ≡ 21) × (counts_check 1 (2 ^ 32 - 1) 1 ≡ 21) × (counts_check 1 1 (2 ^ 32 - 1) ≡ 21)
counts = (refl, refl, refl, refl, refl, refl, refl, refl, refl, refl, refl, refl, refl, refl, refl, refl, refl, refl, refl, refl, refl)

-- "2 doors, 9 targets each, star of an or of 15 full ranges: 4,355 words (8 targets: 3,875, accepted)"
row-15 :
    (longest 2 9 15 ≡ 4355) × (first_reply_call 16384 32768 (bytes_of (dear_part 2 9)) (bytes_of (dear_path 15)) ≡ refused 15)
    × (longest 2 8 15 ≡ 3875)
    × ((f : List ℕ) × (length f ≡ 3875) × (first_reply_call 16384 32768 (bytes_of (dear_part 2 8)) (bytes_of (dear_path 15)) ≡ accepted f))
row-15 =
    let above = request_13.dearest 2 9 15 refl in
    let below = request_13.dearest 2 8 15 refl in (
      refl,
      above.over 16384 32768 (omega arith) (omega arith) (omega arith),
      refl,
      (below.reply, below.owed below.reply below.is_reply, below.given 16384 32768 (omega arith) (omega arith) (omega arith)),
    )
