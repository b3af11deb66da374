-- Believed. Four paths in one visit: the first replies to a bundle of up to four paths, each in an output of its own. Document 02, request 6.
use Rattle.std.specs.Prelude.{ℕ, List}
use Rattle.files.specs.Outcome.{Outcome}
use Rattle.path_bundles.specs.Split.{split}
use Rattle.path_bundles.specs.Packed.{LeftSeveral, leaves_several}
use Rattle.visits.specs.Whole.{shortest, whole_number, whole_grouped_number}
use Rattle.visits.specs.Visit.{visit}
use Rattle.site_first.specs.First.{first_reply_call, first_reply_grouped_call}

-- the most paths of a visit
abbrev pub visit_paths : ℕ
visit_paths = 4

-- the outcomes at outputs of ns bytes, with a working buffer of m bytes
unfoldable pub four_replies : List ℕ → ℕ → List ℕ → List ℕ → List Outcome
four_replies ns m part paths =
    visit (whole_number visit_paths (shortest ns) m part paths) (λ n path. first_reply_call n m part path) ns (split visit_paths paths)

unfoldable pub four_replies_grouped : List ℕ → ℕ → List ℕ → List ℕ → List ℕ → List Outcome
four_replies_grouped ns m part groups paths =
    visit (whole_grouped_number visit_paths (shortest ns) m part groups paths) (λ n path. first_reply_grouped_call n m part groups path) ns (split visit_paths paths)

-- the calls
abbrev pub four_replies_call : List ℕ → ℕ → List ℕ → List ℕ → LeftSeveral
four_replies_call ns m part paths = leaves_several (four_replies ns m part paths) ns m

abbrev pub four_replies_grouped_call : List ℕ → ℕ → List ℕ → List ℕ → List ℕ → LeftSeveral
four_replies_grouped_call ns m part groups paths = leaves_several (four_replies_grouped ns m part groups paths) ns m
