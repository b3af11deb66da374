-- Believed. Files one after another, found by the lengths that their headers say, and by nothing else. Document 02, request 6: a bundle of paths.
use Rattle.std.specs.Prelude.{ℕ, zero, suc, ◌*◌, ◌/◌, ◌≤◌, ◌<◌, ◌≡◌, Bool, true, false, ◌&&◌, leb, ltb, length, get_or, take, drop}
use mathlib.Core.List.{List, [], ◌∷◌, flatten}
use Rattle.sets.specs.Sets.{Mem}
use Rattle.files.specs.Word.{words}
use Rattle.files.specs.Field.{size_of}
use Rattle.files.specs.Refuse.{◌unless◌}
use Rattle.files.specs.Limits.{bundle_words}

-- how many bytes the file at the front has, as its header says
abbrev pub bytes_in : List ℕ → ℕ
bytes_in s = 4 * size_of (get_or (words s) 0 0)

-- the file at the front, and what stands behind it
abbrev pub file_in : List ℕ → List ℕ
file_in s = take (bytes_in s) s

abbrev pub behind : List ℕ → List ℕ
behind s = drop (bytes_in s) s

-- What it is to split bytes into at most `most` files: each has some bytes, and as many as its header says, and together they are the bytes.
pub record IsSplit (most : ℕ) (s : List ℕ) (fs : List (List ℕ)) : Type 0 where
  pub some : (f : List ℕ) → Mem f fs → 0 < length f
  pub sized : (f : List ℕ) → Mem f fs → length f ≡ bytes_in f
  pub all : flatten fs ≡ s
  pub few : length fs ≤ most

-- and computed: the files, at most `most` of them
abbrev pub split : ℕ → List ℕ → List (List ℕ)
split zero s = []
split (suc k) [] = []
split (suc k) (b ∷ s) = file_in (b ∷ s) ∷ split k (behind (b ∷ s))

-- whether at most `most` files use up the bytes exactly: a length of 0 or past the end does not, and so do not bytes that are not in fours
abbrev pub uses_up : ℕ → List ℕ → Bool
uses_up zero [] = true
uses_up zero (b ∷ s) = false
uses_up (suc k) [] = true
uses_up (suc k) (b ∷ s) = ltb 0 (bytes_in (b ∷ s)) && leb (bytes_in (b ∷ s)) (length (b ∷ s)) && uses_up k (behind (b ∷ s))

-- 17, of a bundle of paths: none, over 8,192 words, more than `most`, or lengths that do not use up its bytes
abbrev pub split_check : ℕ → List ℕ → ℕ
split_check most s = 17 unless (ltb 0 (length s) && leb (length s / 4) bundle_words && uses_up most s)
