-- Choices and shared replies that are computed. Assumes nothing.
use mathlib.Core.Path.{◌≡◌, refl}
use mathlib.Core.List.{List, [], ◌∷◌, ◌++◌, flatten}
use Prim.Native.Nat.{ℕ}
use lib.ListN.{replicate}
use Rattle.files.specs.Word.{bytes_of}
use Rattle.files.specs.Outcome.{Outcome, refused, accepted, zeros, left}
use Rattle.choices.specs.Choice.{Desk, numbers}
use Rattle.choices.specs.Shared.{leaves_shared, Served}

abbrev desk : ℕ → ℕ → Desk
desk number size = record { number = number; size = size }

-- a short one asked last has its room kept; the second long one does not fit, and a later, shorter one does
later_fits : numbers (desk 0 3000 ∷ desk 0 1000 ∷ desk 9 0 ∷ desk 0 584 ∷ desk 0 512 ∷ []) ≡ 0 ∷ 15 ∷ 9 ∷ 0 ∷ 0 ∷ []
unfolding numbers
later_fits = refl

-- eight of 512 words fill the reply
eight_short : numbers (replicate 8 (desk 0 512)) ≡ replicate 8 0
unfolding numbers
eight_short = refl

-- 513 words are long: they have no room beside seven of 512
one_word_over : numbers (desk 0 513 ∷ replicate 7 (desk 0 512)) ≡ 15 ∷ replicate 7 0
unfolding numbers
one_word_over = refl

-- 4,096 words have room by themselves, and not beside a word
alone : numbers (desk 0 4096 ∷ []) ≡ 0 ∷ []
unfolding numbers
alone = refl

beside_one : numbers (desk 0 4096 ∷ desk 0 1 ∷ []) ≡ 15 ∷ 0 ∷ []
unfolding numbers
beside_one = refl

-- a refused path takes no room
beside_refused : numbers (desk 0 4096 ∷ desk 9 512 ∷ []) ≡ 0 ∷ 9 ∷ []
unfolding numbers
beside_refused = refl

-- two replies of 1 and 2 words with a refusal between them, in an output of 16 bytes: the third desk finds its own behind the first's
abbrev one : List ℕ
one = 0x71000001 ∷ []

abbrev two : List ℕ
two = 0x71000002 ∷ 0x80000005 ∷ []

abbrev three_desks : List Outcome
three_desks = accepted one ∷ refused 9 ∷ accepted two ∷ []

three_left : leaves_shared three_desks 16 2 ≡ left 0x000900 (bytes_of (one ++ two) ++ zeros 4) (zeros 2)
unfolding numbers flatten
three_left = refl

third_served : Served (leaves_shared three_desks 16 2) 2 two
unfolding numbers flatten
third_served = record { told = refl; finds = refl }
