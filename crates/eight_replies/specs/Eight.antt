-- Believed. One reply for eight askers: the first replies to a bundle of up to eight paths, as many as find room in one output. Document 02, request 11.
use Rattle.std.specs.Prelude.{ℕ, List, replicate}
use Rattle.files.specs.Outcome.{Outcome, Left}
use Rattle.path_bundles.specs.Split.{split}
use Rattle.site_first.specs.First.{first_reply_call, first_reply_grouped_call}
use Rattle.visits.specs.Whole.{whole_number, whole_grouped_number}
use Rattle.visits.specs.Visit.{visit}
use Rattle.choices.specs.Shared.{leaves_shared}

-- the most desks
abbrev pub desk_count : ℕ
desk_count = 8

-- what each desk would be answered by itself, with an output of n and a working buffer of m bytes; past the last path 0 and no words
unfoldable pub eight_replies : ℕ → ℕ → List ℕ → List ℕ → List Outcome
eight_replies n m part paths =
    visit (whole_number desk_count n m part paths) (λ n path. first_reply_call n m part path) (replicate desk_count n) (split desk_count paths)

unfoldable pub eight_replies_grouped : ℕ → ℕ → List ℕ → List ℕ → List ℕ → List Outcome
eight_replies_grouped n m part groups paths =
    visit (whole_grouped_number desk_count n m part groups paths) (λ n path. first_reply_grouped_call n m part groups path) (replicate desk_count n) (split desk_count paths)

-- the calls
abbrev pub eight_replies_call : ℕ → ℕ → List ℕ → List ℕ → Left
eight_replies_call n m part paths = leaves_shared (eight_replies n m part paths) n m

abbrev pub eight_replies_grouped_call : ℕ → ℕ → List ℕ → List ℕ → List ℕ → Left
eight_replies_grouped_call n m part groups paths = leaves_shared (eight_replies_grouped n m part groups paths) n m
