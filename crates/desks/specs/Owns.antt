-- Inner. What desks have by themselves, ahead of the limit, and the choice among them.
use Rattle.std.specs.Prelude.{ℕ, zero, suc, ◌+◌, cond, ◌||◌, List, [], ◌∷◌, ◌++◌, map, leb, length}
use Rattle.files.specs.Limits.{reply_words}
use Rattle.path_bundles.specs.Split.{file_in, behind}
use Rattle.visits.specs.Answered.{Own, own_by, own}
use Rattle.choices.specs.Choice.{short_words}

-- by the files from header to header, so many of them
unfoldable pub owns : ℕ → List ℕ → List ℕ → ℕ → List ℕ → List Own
owns whole part groups zero s = []
owns whole part groups (suc k) s = own whole part groups (file_in s) ∷ owns whole part groups k (behind s)

abbrev pub size_of_own : Own → ℕ
size_of_own x = length x.reply

-- the words of a reply that count as those of a short one, and as those of a long one
abbrev pub short_part : ℕ → ℕ
short_part size = cond (leb size short_words) size 0

abbrev pub long_part : ℕ → ℕ
long_part size = cond (leb size short_words) 0 size

abbrev pub short_sum : List Own → ℕ
short_sum [] = 0
short_sum (x ∷ xs) = short_part (size_of_own x) + short_sum xs

-- what a desk gets where so many words are taken
abbrev pub offered : ℕ → Own → Own
offered taken x = cond (leb (size_of_own x) short_words || leb (taken + size_of_own x) reply_words) x (own_by 15 [])

unfoldable pub chosen : ℕ → List Own → List Own
chosen taken [] = []
chosen taken (x ∷ xs) = offered taken x ∷ chosen (taken + long_part (size_of_own (offered taken x))) xs

-- the replies one after another
abbrev pub replies_of : List Own → List ℕ
replies_of [] = []
replies_of (x ∷ xs) = x.reply ++ replies_of xs

abbrev pub numbers_in : List Own → List ℕ
numbers_in xs = map (λ x. x.number) xs
