-- Believed. The old search over a whole plant, and with the customer's label groups. Document 01; document 02, request 3.
use Rattle.std.specs.Prelude.{ℕ, List, map, drop}
use Rattle.files.specs.Word.{words}
use Rattle.files.specs.Field.{file, pair, answer_word}
use Rattle.files.specs.Refuse.{◌then◌, room_check, size_check}
use Rattle.files.specs.Outcome.{Outcome, outcome}
use Rattle.files.specs.Part.{roots, whole_check}
use Rattle.files.specs.Path.{path_check}
use Rattle.files.specs.Groups.{groups_check, loaded}
use Rattle.files.specs.Limits.{part_words, path_words, final_words}
use Rattle.expressions.specs.Labels.{expr_of}
use Rattle.walks.specs.Product.{answers}

unfoldable pub listed : List ℕ → List ℕ → List ℕ
listed whole path =
    file 15 0 0 (map answer_word (answers (drop 1 whole) (expr_of (drop 1 path)) (map (λ x. pair x 0) (roots (drop 1 whole)))))

unfoldable pub old_search_call : ℕ → ℕ → List ℕ → List ℕ → Outcome
old_search_call out work whole path =
    outcome
    (room_check final_words out work then size_check part_words whole then whole_check (words whole) then size_check path_words path then path_check (words path))
    final_words
    (listed (words whole) (words path))

-- with the customer's groups: they are checked just before the path, and the list is that of the path with the groups loaded
unfoldable pub old_search_grouped_call : ℕ → ℕ → List ℕ → List ℕ → List ℕ → Outcome
old_search_grouped_call out work whole groups path =
    outcome
    (room_check final_words out work then size_check part_words whole then whole_check (words whole) then groups_check groups
    then size_check path_words path then path_check (words path))
    final_words
    (listed (words whole) (loaded (words groups) (words path)))
