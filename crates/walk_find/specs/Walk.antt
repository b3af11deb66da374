-- Believed. The calls for a walk beside a listed node, without groups and with the customer's. Document 02, request 10.
use Rattle.std.specs.Prelude.{ℕ, Bool, true, false, List, [], drop}
use Rattle.std.proofs.Math.Option.{Option, none, some}
use Rattle.files.specs.Word.{words}
use Rattle.files.specs.Refuse.{◌then◌, ◌unless◌, room_check, size_check}
use Rattle.files.specs.Outcome.{Outcome, outcome}
use Rattle.files.specs.Part.{whole_check}
use Rattle.files.specs.Path.{path_check}
use Rattle.files.specs.Groups.{groups_check, loaded}
use Rattle.files.specs.Limits.{shown_words, path_words, walk_words}
use Rattle.expressions.specs.Labels.{holds, expr_of}
use Rattle.file_walks.specs.Walks.{runs_in, walk_file}
use Rattle.best_walks.specs.Finder.{find}

-- the best walk to y, of the words of a whole and of a path
unfoldable pub found_walk : List ℕ → List ℕ → ℕ → Option (List ℕ)
found_walk whole path y = find holds (runs_in (drop 1 whole)) (drop 1 whole) (expr_of (drop 1 path)) y

abbrev pub is_found : Option (List ℕ) → Bool
is_found none = false
is_found (some ws) = true

abbrev pub file_of : Option (List ℕ) → List ℕ
file_of none = []
file_of (some ws) = walk_file ws

-- "a node that isn't listed gets 20 just before 15"
abbrev pub listed_check : Option (List ℕ) → ℕ
listed_check found = 20 unless is_found found

unfoldable pub walk_call : ℕ → ℕ → List ℕ → List ℕ → ℕ → Outcome
walk_call out work whole path y =
    outcome
    (room_check walk_words out work then size_check shown_words whole then whole_check (words whole) then size_check path_words path then path_check (words path)
    then listed_check (found_walk (words whole) (words path) y))
    walk_words
    (file_of (found_walk (words whole) (words path) y))

-- with the customer's groups: they are checked just before the path, and the walk is that of the path with the groups loaded
unfoldable pub walk_grouped_call : ℕ → ℕ → List ℕ → List ℕ → List ℕ → ℕ → Outcome
walk_grouped_call out work whole groups path y =
    outcome
    (room_check walk_words out work then size_check shown_words whole then whole_check (words whole) then groups_check groups
    then size_check path_words path then path_check (words path) then listed_check (found_walk (words whole) (loaded (words groups) (words path)) y))
    walk_words
    (file_of (found_walk (words whole) (loaded (words groups) (words path)) y))
