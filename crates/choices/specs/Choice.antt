-- Believed. Which replies are put in where several desks share one of 4,096 words. Document 02, request 11: "A first reply of at most 512 words is
-- always put in. Of the longer ones, in the order of asking, each goes in if it fits beside all short ones and the long ones already in."
use Rattle.std.specs.Prelude.{ℕ, zero, suc, ◌+◌, ◌≤◌, ◌<◌, ◌≡◌, Bool, cond, not, ◌&&◌, List, [], ◌∷◌, ◌++◌, eqb, leb, length, get_or}
use Rattle.files.specs.Limits.{reply_words}

-- what a desk has by itself: the number of its path, and how many words its reply has, which counts where the number is 0
pub record Desk : Type 0 where
  pub number : ℕ
  pub size : ℕ

-- the longest reply that is always put in
abbrev pub short_words : ℕ
short_words = 512

abbrev pub is_short : Desk → Bool
is_short d = eqb d.number 0 && leb d.size short_words

abbrev pub is_long : Desk → Bool
is_long d = eqb d.number 0 && not (leb d.size short_words)

-- the words of the desks that pass a test
abbrev pub words_in : (Desk → Bool) → List Desk → ℕ
words_in p [] = 0
words_in p (d ∷ ds) = let rest = words_in p ds in cond (p d) (d.size + rest) rest

-- The desks' numbers, in the order of asking, where so many words are taken by all short replies and by the long ones already in: a long reply
-- without room gets 15, and every other desk has its own number.
abbrev pub choose : ℕ → List Desk → List ℕ
choose taken [] = []
choose taken (d ∷ ds) =
    cond (is_long d)
    (cond (leb (taken + d.size) reply_words) (0 ∷ choose (taken + d.size) ds) (15 ∷ choose taken ds))
    (d.number ∷ choose taken ds)

unfoldable pub numbers : List Desk → List ℕ
numbers ds = choose (words_in is_short ds) ds

-- those that are put in, by the numbers
abbrev pub put_in : {A : Type 0} → List ℕ → List A → List A
put_in [] xs = []
put_in (n ∷ ns) [] = []
put_in (zero ∷ ns) (x ∷ xs) = x ∷ put_in ns xs
put_in (suc n ∷ ns) (x ∷ xs) = put_in ns xs

-- What the choice is, in the request's words: at each desk, those before it and those after it given.
pub record IsChoice (ds : List Desk) (ns : List ℕ) : Type 0 where
  pub each : length ns ≡ length ds
  pub refusal : (before after : List Desk) (d : Desk) → ds ≡ before ++ d ∷ after → (d.number ≡ 0 → ⊥) → get_or ns (length before) 0 ≡ d.number
  pub short : (before after : List Desk) (d : Desk) → ds ≡ before ++ d ∷ after → d.number ≡ 0 → d.size ≤ 512 → get_or ns (length before) 0 ≡ 0
  pub long : (before after : List Desk) (d : Desk) → ds ≡ before ++ d ∷ after → d.number ≡ 0 → 512 < d.size
      → get_or ns (length before) 0
      ≡ cond (leb (words_in is_short ds + words_in is_long (put_in ns before) + d.size) 4096) 0 15
