-- Bytes and words, the other way: bytes in fours are those of their words; and the bytes of words put together. Assumes nothing.
use mathlib.Core.Path.{◌≡◌, refl, sym, ◌∙◌, ap, ap₂}
use mathlib.Core.List.{List, [], ◌∷◌, ◌++◌, map, flatten}
use Prim.Native.Nat.{ℕ, ◌/◌, ◌%◌, ◌^◌, ◌<◌}
use native.Mathlib.Omega.{arith}
use lib.ListN.{length}
use Rattle.sets.specs.Sets.{Mem, here, there}
use Rattle.files.specs.Word.{word, words, bytes_of, Bytes}

module _ (a b c d : ℕ) {s : List ℕ} (h : Bytes (a ∷ b ∷ c ∷ d ∷ s)) where
  first_four : (a < 256) × (b < 256) × (c < 256) × (d < 256)
  first_four = (h a (here refl), h b (there (here refl)), h c (there (there (here refl))), h d (there (there (there (here refl)))))

  rest : Bytes s
  rest x m = h x (there (there (there (there m))))

-- the bytes of a word are read as a number below 2 ^ 32, and it is written as them
four : (a b c d : ℕ) → (a < 256) × (b < 256) × (c < 256) × (d < 256) → (word a b c d < 2 ^ 32) × (bytes_of (word a b c d ∷ []) ≡ a ∷ b ∷ c ∷ d ∷ [])
four a b c d h = (omega arith, λ i. one i ∷ two i ∷ three i ∷ last i ∷ [])
  where
    one : word a b c d % 256 ≡ a
    one = omega (arith, h.0)

    two : word a b c d / 256 % 256 ≡ b
    two = omega (arith, h.0, h.1)

    three : word a b c d / 65536 % 256 ≡ c
    three = omega (arith, h.0, h.1, h.2)

    last : word a b c d / 16777216 % 256 ≡ d
    last = omega (arith, h.0, h.1, h.2, h.3)

-- words of bytes fit 32 bits
pub words_below_lem : (s : List ℕ) → Bytes s → (w : ℕ) → Mem w (words s) → w < 2 ^ 32
words_below_lem [] h w m = elim m [ ]
words_below_lem (a ∷ []) h w m = elim m [ ]
words_below_lem (a ∷ b ∷ []) h w m = elim m [ ]
words_below_lem (a ∷ b ∷ c ∷ []) h w m = elim m [ ]
words_below_lem (a ∷ b ∷ c ∷ d ∷ s) h w (here e) = rw e (four a b c d (first_four a b c d h)).0
words_below_lem (a ∷ b ∷ c ∷ d ∷ s) h w (there m) = words_below_lem s (rest a b c d h) w m

-- bytes in fours are those of their words
pub bytes_words : (s : List ℕ) → Bytes s → length s % 4 ≡ 0 → bytes_of (words s) ≡ s
bytes_words [] h e = refl
bytes_words (a ∷ []) h e = absurd (omega arith)
bytes_words (a ∷ b ∷ []) h e = absurd (omega arith)
bytes_words (a ∷ b ∷ c ∷ []) h e = absurd (omega arith)
bytes_words (a ∷ b ∷ c ∷ d ∷ s) h e = ap₂ ◌++◌ (four a b c d (first_four a b c d h)).1 (bytes_words s (rest a b c d h) (omega arith))

-- of words put together
pub bytes_append : (f g : List ℕ) → bytes_of (f ++ g) ≡ bytes_of f ++ bytes_of g
bytes_append [] g = refl
bytes_append (w ∷ f) g = rw (bytes_append f g)

pub bytes_flatten : (fs : List (List ℕ)) → flatten (map bytes_of fs) ≡ bytes_of (flatten fs)
unfolding flatten
bytes_flatten [] = refl
bytes_flatten (f ∷ fs) = ap (bytes_of f ++◌) (bytes_flatten fs) ∙ sym (bytes_append f (flatten fs))
