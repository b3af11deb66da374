-- Believed. The call from triples. Document 02, request 8.
use Rattle.std.specs.Prelude.{ℕ, List}
use Rattle.files.specs.Word.{words}
use Rattle.files.specs.Refuse.{◌then◌, room_check, size_check}
use Rattle.files.specs.Outcome.{Outcome, outcome}
use Rattle.files.specs.Limits.{part_words, triple_words}
use Rattle.triples.specs.Triple.{triples_check, from_triples}

unfoldable pub from_call : ℕ → ℕ → List ℕ → Outcome
from_call out work triples =
    outcome
    (room_check part_words out work then size_check triple_words triples then triples_check (words triples))
    part_words
    (from_triples (words triples))
