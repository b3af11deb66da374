-- Believed. A site's first reply as a call, and as a call with the customer's label groups. Document 01, "First reply"; document 02, request 3.
use Rattle.std.specs.Prelude.{ℕ, List}
use Rattle.files.specs.Word.{words}
use Rattle.files.specs.Refuse.{◌then◌, room_check, size_check}
use Rattle.files.specs.Outcome.{Outcome, outcome}
use Rattle.files.specs.Part.{part_check}
use Rattle.files.specs.Path.{path_check}
use Rattle.files.specs.Groups.{groups_check, loaded}
use Rattle.files.specs.Limits.{part_words, path_words, reply_words}
use Rattle.first_replies.specs.FirstReply.{first_reply}

-- the call
unfoldable pub first_reply_call : ℕ → ℕ → List ℕ → List ℕ → Outcome
first_reply_call out work part path =
    outcome
    (room_check reply_words out work then size_check part_words part then part_check (words part) then size_check path_words path then path_check (words path))
    reply_words
    (first_reply (words part) (words path))

-- with the customer's groups: they are checked just before the path, and the reply is that of the path with the groups loaded
unfoldable pub first_reply_grouped_call : ℕ → ℕ → List ℕ → List ℕ → List ℕ → Outcome
first_reply_grouped_call out work part groups path =
    outcome
    (room_check reply_words out work then size_check part_words part then part_check (words part) then groups_check groups
    then size_check path_words path then path_check (words path))
    reply_words
    (first_reply (words part) (loaded (words groups) (words path)))
