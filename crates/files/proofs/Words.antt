-- Words in bytes: written bytes are read back as the words, and their size is accepted; how many words there are, the word at an index as
-- its four bytes, and a word put there as four stores. Assumes nothing.
use mathlib.Core.Path.{◌≡◌, refl, ap, ap₂}
use mathlib.Core.List.{List, [], ◌∷◌}
use Prim.Native.Nat.{ℕ, zero, suc, ◌+◌, ◌-◌, ◌*◌, ◌/◌, ◌%◌, ◌^◌, ◌≤◌, ◌<◌}
use native.Mathlib.Nat.{suc-add, mod-eq_of_lt, div-div-eq-div-mul}
use native.Mathlib.Omega.{arith}
use lib.ListN.{length, get_or, set, take, drop, get_or-eq_default, length-drop}
use lib.Seq.{take_all}
use Rattle.sets.specs.Sets.{Mem, here, there}
use Rattle.files.specs.Word.{word, words, bytes_of, put_word}
use Rattle.files.specs.Refuse.{size_check}
use Rattle.files.proofs.Checks.{checks}

pub word_bytes : (w : ℕ) → w < 2 ^ 32 → word (w % 256) (w / 256 % 256) (w / 65536 % 256) (w / 16777216 % 256) ≡ w
word_bytes w h =
    let top : w / 16777216 % 256 ≡ w / 16777216 = mod-eq_of_lt (omega arith) in
    omega (arith, div-div-eq-div-mul w 256 256, div-div-eq-div-mul w 65536 256)

pub words_bytes : (f : List ℕ) → ((w : ℕ) → Mem w f → w < 2 ^ 32) → words (bytes_of f) ≡ f
words_bytes [] h = refl
words_bytes (w ∷ f) h = ap₂ ◌∷◌ (word_bytes w (h w (here refl))) (words_bytes f (λ v m. h v (there m)))

pub bytes_length : (f : List ℕ) → length (bytes_of f) ≡ 4 * length f
bytes_length [] = refl
bytes_length (w ∷ f) = omega (arith, bytes_length f)

-- a file's bytes are in fours, some, and not over the limit if its words are not
pub size_checked : (limit : ℕ) (f : List ℕ) → 0 < length f → length f ≤ limit → size_check limit (bytes_of f) ≡ 0
size_checked limit f h k = rw (bytes_length f) (simp checks ((omega arith, omega arith), omega arith))

-- ---- by index

pub words_length : (s : List ℕ) → length (words s) ≡ length s / 4
words_length [] = omega arith
words_length (a ∷ []) = omega arith
words_length (a ∷ b ∷ []) = omega arith
words_length (a ∷ b ∷ c ∷ []) = omega arith
words_length (a ∷ b ∷ c ∷ d ∷ s) = let ih = words_length s in omega arith

pub quad : (k : ℕ) → 4 * suc k ≡ suc (suc (suc (suc (4 * k))))
quad k = omega arith

-- the word at k, where there is one
pub words_at_lem : (s : List ℕ) (k : ℕ) → k < length s / 4
    → get_or (words s) k 0 ≡ word (get_or s (4 * k) 0) (get_or s (4 * k + 1) 0) (get_or s (4 * k + 2) 0) (get_or s (4 * k + 3) 0)
words_at_lem [] k h = absurd (omega arith)
words_at_lem (a ∷ []) k h = absurd (omega arith)
words_at_lem (a ∷ b ∷ []) k h = absurd (omega arith)
words_at_lem (a ∷ b ∷ c ∷ []) k h = absurd (omega arith)
words_at_lem (a ∷ b ∷ c ∷ d ∷ s) zero h = refl
words_at_lem (a ∷ b ∷ c ∷ d ∷ s) (suc k) h = let ih = words_at_lem s k (omega arith) in simp (quad, suc-add) ih

-- past the last word
pub words_past : (s : List ℕ) (k : ℕ) → length s / 4 ≤ k → get_or (words s) k 0 ≡ 0
words_past s k h = get_or-eq_default (words s) 0 (omega (arith, words_length s))

-- four stores put a word at k, where there is one
pub put_at : (s : List ℕ) (k w : ℕ) → k < length s / 4
    → set (set (set (set s (4 * k) (w % 256)) (4 * k + 1) (w / 256 % 256)) (4 * k + 2) (w / 65536 % 256)) (4 * k + 3) (w / 16777216 % 256)
    ≡ put_word s k w
put_at [] k w h = absurd (omega arith)
put_at (a ∷ []) k w h = absurd (omega arith)
put_at (a ∷ b ∷ []) k w h = absurd (omega arith)
put_at (a ∷ b ∷ c ∷ []) k w h = absurd (omega arith)
put_at (a ∷ b ∷ c ∷ d ∷ s) zero w h = refl
put_at (a ∷ b ∷ c ∷ d ∷ s) (suc k) w h = let ih = put_at s k w (omega arith) in simp (quad, suc-add, ih)

-- past the last word nothing is put
pub put_past : (s : List ℕ) (k w : ℕ) → length s / 4 ≤ k → put_word s k w ≡ s
put_past [] k w h = refl
put_past (a ∷ []) k w h = refl
put_past (a ∷ b ∷ []) k w h = refl
put_past (a ∷ b ∷ c ∷ []) k w h = refl
put_past (a ∷ b ∷ c ∷ d ∷ s) zero w h = absurd (omega arith)
put_past (a ∷ b ∷ c ∷ d ∷ s) (suc k) w h = let ih = put_past s k w (omega arith) in ap (λ (t : List ℕ). a ∷ b ∷ c ∷ d ∷ t) ih

-- the words of what is left of the bytes after n words
pub words_drop : (n : ℕ) (s : List ℕ) → words (drop (4 * n) s) ≡ drop n (words s)
words_drop zero s = refl
words_drop (suc n) [] = rw quad
words_drop (suc n) (a ∷ []) = rw quad
words_drop (suc n) (a ∷ b ∷ []) = rw quad
words_drop (suc n) (a ∷ b ∷ c ∷ []) = rw quad
words_drop (suc n) (a ∷ b ∷ c ∷ d ∷ s) = rw quad (words_drop n s)

-- those of the rest of a slice, from word n on
pub words_rest : (n : ℕ) (s : List ℕ) → words (take (length s - 4 * n) (drop (4 * n) s)) ≡ drop n (words s)
words_rest n s = rw (take_all (length s - 4 * n) (drop (4 * n) s) (omega (arith, length-drop (4 * n) s))) (words_drop n s)

-- the words of the bytes of n words at the front
pub words_take : (n : ℕ) (s : List ℕ) → words (take (4 * n) s) ≡ take n (words s)
words_take zero s = refl
words_take (suc n) [] = rw quad
words_take (suc n) (a ∷ []) = rw quad
words_take (suc n) (a ∷ b ∷ []) = rw quad
words_take (suc n) (a ∷ b ∷ c ∷ []) = rw quad
words_take (suc n) (a ∷ b ∷ c ∷ d ∷ s) = rw quad (ap (word a b c d ∷◌) (words_take n s))
