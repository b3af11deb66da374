-- Believed. A site's second reply, as a call, and as a call with the customer's label groups. Document 01, "Second reply"; document 02, request 3.
use Rattle.std.specs.Prelude.{ℕ, ◌≡◌, List, map, T, get_or, drop}
use Rattle.sets.specs.Sets.{Mem, Lists}
use Rattle.files.specs.Word.{words}
use Rattle.files.specs.Field.{site_of, labels_of, file, pair_of, pair_node, pair_state, answer_word}
use Rattle.files.specs.Refuse.{◌then◌, room_check, size_check}
use Rattle.files.specs.Outcome.{Outcome, outcome}
use Rattle.files.specs.Part.{nodes, part_check}
use Rattle.files.specs.Path.{path_check}
use Rattle.files.specs.Groups.{groups_check, loaded}
use Rattle.files.specs.Calls.{calls_check}
use Rattle.files.specs.Limits.{part_words, path_words, reply_words}
use Rattle.expressions.specs.Expr.{Expr}
use Rattle.expressions.specs.Positions.{accepts}
use Rattle.expressions.specs.Labels.{expr_of}
use Rattle.walks.specs.Product.{Walk, answers}
pub use Rattle.site_calls.specs.Against.{called_in, against_check}

-- Document 01: "Nodes of the part reached in an accepting state by a walk inside the part, of zero or more edges, from a called pair of the
-- part. Calls for other nodes are passed over." The calls are the call list's pairs.
abbrev pub Answers : List ℕ → Expr → List ℕ → ℕ → Type 0
Answers part e calls x =
    Mem x (nodes part)
    × ((c : ℕ) × (q : ℕ) × Mem c calls × Mem (pair_node c) (nodes part) × Walk part e (pair_node c) (pair_state c) x q × T (accepts e q))

-- what a second reply is, in those words: f, by the words of accepted files
abbrev pub IsSecondReply : List ℕ → List ℕ → List ℕ → List ℕ → Type 0
IsSecondReply part path calls f =
    (xs : List ℕ) × Lists (Answers (drop 1 part) (expr_of (drop 1 path)) (map pair_of (drop 1 calls))) xs
    × (f ≡ file 13 (site_of (get_or part 0 0)) (labels_of (get_or path 0 0)) (map answer_word xs))

-- the second reply, computed
unfoldable pub second_reply : List ℕ → List ℕ → List ℕ → List ℕ
second_reply part path calls =
    file 13 (site_of (get_or part 0 0)) (labels_of (get_or path 0 0))
    (map answer_word (answers (drop 1 part) (expr_of (drop 1 path)) (called_in (drop 1 part) (drop 1 calls))))

unfoldable pub second_reply_call : ℕ → ℕ → List ℕ → List ℕ → List ℕ → Outcome
second_reply_call out work part path calls =
    outcome
    (room_check reply_words out work then size_check part_words part then part_check (words part) then size_check path_words path then path_check (words path)
    then size_check reply_words calls then calls_check (words calls) then against_check (words part) (words path) (words calls))
    reply_words
    (second_reply (words part) (words path) (words calls))

-- with the customer's groups: they are checked just before the path, and the reply is that of the path with the groups loaded
unfoldable pub second_reply_grouped_call : ℕ → ℕ → List ℕ → List ℕ → List ℕ → List ℕ → Outcome
second_reply_grouped_call out work part groups path calls =
    outcome
    (room_check reply_words out work then size_check part_words part then part_check (words part) then groups_check groups
    then size_check path_words path then path_check (words path)
    then size_check reply_words calls then calls_check (words calls) then against_check (words part) (words path) (words calls))
    reply_words
    (second_reply (words part) (loaded (words groups) (words path)) (words calls))
