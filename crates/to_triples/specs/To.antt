-- Believed. The call to triples, and the count of words that it hands out. Document 02, request 8.
use Rattle.std.specs.Prelude.{ℕ, List, length}
use Rattle.files.specs.Word.{words}
use Rattle.files.specs.Refuse.{◌then◌, room_check, size_check}
use Rattle.files.specs.Outcome.{Outcome, outcome, LeftLent, leaves_lent}
use Rattle.files.specs.Part.{whole_check}
use Rattle.files.specs.Limits.{part_words, triple_words}
use Rattle.triples.specs.Triple.{to_triples, say_check}

unfoldable pub to_call : ℕ → ℕ → List ℕ → Outcome
to_call out work whole =
    outcome
    (room_check triple_words out work then size_check part_words whole then whole_check (words whole) then say_check (words whole))
    triple_words
    (to_triples (words whole))

-- what the call leaves: "their count of words is handed out too (0 on a refusal)"
abbrev pub leaves_counted : ℕ → ℕ → List ℕ → LeftLent
leaves_counted out work whole = leaves_lent (to_call out work whole) 0 (length (to_triples (words whole))) out work
