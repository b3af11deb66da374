-- Believed. A path: an expression in postfix, at most 64 words with the header. Document 01, "Path"; document 02, requests 1 (sort 2) and 9
-- (operands that wait).
use Rattle.std.specs.Prelude.{ℕ, suc, ◌+◌, ◌-◌, ◌*◌, ◌^◌, Bool, true, false, cond, ◌&&◌, ◌||◌, List, [], ◌∷◌, eqb, leb, length, get_or}
use Rattle.sets.specs.Sets.{filter}
use Rattle.files.specs.Field.{bits, kind_of, labels_of, word_of}
use Rattle.files.specs.Limits.{most_waiting}
use Rattle.files.specs.Refuse.{◌then◌, ◌unless◌, file_check}
use Rattle.files.specs.Scan.{scan_words}

abbrev pub is_label : ℕ → Bool
is_label w = eqb (kind_of w) 5

abbrev pub sort_of : ℕ → ℕ
sort_of w = bits 27 24 w

abbrev pub high_of : ℕ → ℕ
high_of w = bits 23 12 w

abbrev pub low_of : ℕ → ℕ
low_of w = bits 11 0 w

abbrev pub group_of : ℕ → ℕ
group_of w = bits 2 0 w

-- a range, or the labels outside one
abbrev pub has_ends : ℕ → Bool
has_ends w = eqb (sort_of w) 0 || eqb (sort_of w) 2

-- 0 empty word, 1 then, 2 or, 3 star
abbrev pub operator_of : ℕ → ℕ
operator_of w = bits 1 0 w

abbrev pub range_word : ℕ → ℕ → ℕ
range_word low high = word_of 5 (high * 2 ^ 12 + low)

abbrev pub group_word : ℕ → ℕ
group_word group = word_of 5 (2 ^ 24 + group)

abbrev pub outside_word : ℕ → ℕ → ℕ
outside_word low high = word_of 5 (2 * 2 ^ 24 + high * 2 ^ 12 + low)

abbrev pub operator_word : ℕ → ℕ
operator_word op = word_of 6 op

abbrev pub label_check : ℕ → ℕ
label_check w =
    cond (has_ends w) (5 unless leb (low_of w) (high_of w)) (5 unless (eqb (sort_of w) 1 && eqb (bits 23 3 w) 0))

abbrev pub operator_check : ℕ → ℕ
operator_check w = 5 unless (eqb (kind_of w) 6 && eqb (bits 27 2 w) 0)

-- the operands that a word takes
abbrev pub takes : ℕ → ℕ
takes w = cond (is_label w) 0 (get_or (0 ∷ 2 ∷ 2 ∷ 1 ∷ []) (operator_of w) 0)

-- the operands that wait after a word
abbrev pub waits : ℕ → ℕ → ℕ
waits waiting w = suc (waiting - takes w)

-- at most `most` operands wait at any of the words, where `waiting` wait before them
abbrev pub at_most : ℕ → ℕ → List ℕ → Bool
at_most most waiting [] = true
at_most most waiting (w ∷ ws) = leb (waits waiting w) most && at_most most (waits waiting w) ws

-- the checks of a path, where at most `most` operands may wait
abbrev pub word_check : ℕ → ℕ → ℕ → ℕ
word_check most waiting w =
    cond (is_label w) (label_check w) (operator_check w)
    then 9 unless (leb (takes w) waiting && leb (waits waiting w) most)

-- not one left
abbrev pub end_check : ℕ → ℕ
end_check waiting = 9 unless eqb waiting 1

abbrev pub scan : ℕ → ℕ → List ℕ → ℕ
scan most waiting ws = scan_words (word_check most) waits end_check waiting ws

-- the words after a header: not n label words at the end
abbrev pub body_check : ℕ → ℕ → List ℕ → ℕ
body_check most h ws = scan most 0 ws then 9 unless eqb (length (filter is_label ws)) (labels_of h)

abbrev pub path_check_by : ℕ → List ℕ → ℕ
path_check_by most ws = file_check 4 false true (body_check most) ws

abbrev pub path_check : List ℕ → ℕ
path_check ws = path_check_by most_waiting ws
