-- Believed. Reading word by word. Document 01: "word by word .., then at its end".
use Rattle.std.specs.Prelude.{ℕ, List, [], ◌∷◌, ltb}
use Rattle.files.specs.Refuse.{◌then◌, ◌unless◌}

-- of each word its check, by what was seen before it, then the words after it; and `end` after the last
abbrev pub scan_words : {S : Type 0} → (S → ℕ → ℕ) → (S → ℕ → S) → (S → ℕ) → S → List ℕ → ℕ
scan_words check next end st [] = end st
scan_words check next end st (w ∷ ws) = check st w then scan_words check next end (next st w) ws

-- 6, of strictly ascending words of any kind: each word by itself, then whether it is above the last one
abbrev pub in_order : (ℕ → ℕ) → ℕ → ℕ → ℕ
in_order check last w = check w then 6 unless ltb last w

abbrev pub scan_ordered : (ℕ → ℕ) → ℕ → List ℕ → ℕ
scan_ordered check last ws = scan_words (in_order check) (λ last w. w) (λ last. 0) last ws
