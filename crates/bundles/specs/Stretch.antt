-- Inner. A file read as a stretch of a bundle: what is learnt of it.
use Rattle.std.specs.Prelude.{ℕ, ◌-◌, Bool, true, not, ◌&&◌, ◌||◌, List, eqb, leb, ltb, length, get_or, take, drop}
use Rattle.sets.specs.States.{has_state}
use Rattle.bundles.specs.declared.bundle.Trip.{Trip}
use Rattle.bundles.specs.declared.bundle.Trip.TheVariants.{First, Second}
use Rattle.files.specs.Field.{site_of, labels_of, size_of}
use Rattle.files.specs.Refuse.{◌then◌, ◌unless◌, header_check}
use Rattle.files.specs.Reply as reply
use Rattle.files.specs.Answers as answers
use Rattle.files.specs.Bundle.{files_check, first_over_check, second_over_check}
use Rattle.files.specs.Limits.{reply_words}

-- the header h of a file in front of n words
unfoldable pub head_check : ℕ → ℕ → ℕ → ℕ
head_check kind n h =
    header_check kind true true (size_of h) h
    then 4 unless (ltb 0 (size_of h) && leb (size_of h) reply_words && leb (size_of h) n)

-- the file at the front of some words
unfoldable pub front_check : ℕ → (ℕ → List ℕ → ℕ) → List ℕ → ℕ
front_check kind body ws =
    head_check kind (length ws) (get_or ws 0 0) then body (get_or ws 0 0) (take (size_of (get_or ws 0 0) - 1) (drop 1 ws))

-- the replies of a trip: their kind, and the check of their words
abbrev pub kind_in : Trip → ℕ
kind_in First = 7
kind_in Second = 13

abbrev pub body_in : Trip → ℕ → List ℕ → ℕ
body_in First = reply.reply_check
body_in Second = answers.answers_check

-- their bundle: file by file, then over all
abbrev pub files_in : Trip → List ℕ → ℕ
files_in trip ws = files_check (kind_in trip) (body_in trip) (length ws) ws

abbrev pub over_in : Trip → List ℕ → ℕ
over_in First = first_over_check
over_in Second = second_over_check

abbrev pub bundle_in : Trip → List ℕ → ℕ
bundle_in trip ws = files_in trip ws then over_in trip ws

-- a header whose site was seen, or whose n is another
unfoldable pub clashing : ℕ → ℕ → ℕ → Bool
clashing sites n h = has_state sites (site_of h) || not (eqb (labels_of h) n)
