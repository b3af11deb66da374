-- Believed. Numbered refusals. 0 is acceptance; of several checks the first number that is not 0 stands. Document 01, "Numbered refusals".
use Rattle.std.specs.Prelude.{ℕ, zero, suc, ◌*◌, ◌/◌, ◌%◌, Bool, true, false, ◌&&◌, ◌||◌, List, [], ◌∷◌, eqb, leb, ltb, length}
use Rattle.files.specs.Field.{bits, kind_of, site_of, labels_of, size_of}
use Rattle.files.specs.Limits.{work_bytes}

infixr 20 ◌then◌
infix 25 ◌unless◌
-- one check, then the next: the first number that is not 0
abbrev pub ◌then◌ : ℕ → ℕ → ℕ
zero then m = m
suc n then m = suc n

-- one check: its number, unless the test passes
abbrev pub ◌unless◌ : ℕ → Bool → ℕ
n unless true = 0
n unless false = n

-- 1: output bytes below 4 × the result's limit, or working buffer below 32,768 bytes
abbrev pub room_check : ℕ → ℕ → ℕ → ℕ
room_check limit out work = 1 unless (leb (4 * limit) out && leb work_bytes work)

-- 2, of any input: no words, over the limit, or bytes not in fours
abbrev pub size_check : ℕ → List ℕ → ℕ
size_check limit s = 2 unless (eqb (length s % 4) 0 && ltb 0 (length s) && leb (length s / 4) limit)

-- 3 and 4 of a file of n words. 3: header kind or a zero bit, where `site` and `labels` say which fields the kind uses and an unused
-- field is zero. 4: header's length wrong
abbrev pub header_check : ℕ → Bool → Bool → ℕ → ℕ → ℕ
header_check kind site labels n h =
    3 unless (eqb (kind_of h) kind && eqb (bits 19 14 h) 0 && (site || eqb (site_of h) 0) && (labels || eqb (labels_of h) 0))
    then 4 unless eqb (size_of h) n

-- a file by itself, of words that `body` checks when the header has passed
abbrev pub file_check : ℕ → Bool → Bool → (ℕ → List ℕ → ℕ) → List ℕ → ℕ
file_check kind site labels body [] = 2
file_check kind site labels body (h ∷ ws) = header_check kind site labels (suc (length ws)) h then body h ws
