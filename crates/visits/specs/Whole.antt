-- Believed. What refuses a visit as a whole: a site is handed a bundle of paths. Document 02, request 6. Request 11 asks for the same with more paths.
use Rattle.std.specs.Prelude.{ℕ, cond, List, [], ◌∷◌, leb}
use Rattle.files.specs.Word.{words}
use Rattle.files.specs.Refuse.{◌then◌, room_check, size_check}
use Rattle.files.specs.Part.{part_check}
use Rattle.files.specs.Groups.{groups_check}
use Rattle.files.specs.Limits.{part_words, reply_words}
use Rattle.path_bundles.specs.Split.{split_check}

-- the shortest of outputs of ns bytes: 1 is for any that is too short
abbrev pub shortest : List ℕ → ℕ
shortest [] = 0
shortest (n ∷ []) = n
shortest (n ∷ k ∷ ns) = cond (leb n (shortest (k ∷ ns))) n (shortest (k ∷ ns))

-- the number of the checks of the whole, for at most `most` paths, where the shortest output has n and the working buffer m bytes
abbrev pub whole_number : ℕ → ℕ → ℕ → List ℕ → List ℕ → ℕ
whole_number most n m part paths =
    room_check reply_words n m then size_check part_words part then part_check (words part) then split_check most paths

-- with the customer's groups: they are checked just before the bundle
abbrev pub whole_grouped_number : ℕ → ℕ → ℕ → List ℕ → List ℕ → List ℕ → ℕ
whole_grouped_number most n m part groups paths =
    room_check reply_words n m then size_check part_words part then part_check (words part) then groups_check groups then split_check most paths
