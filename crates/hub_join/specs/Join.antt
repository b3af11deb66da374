-- Believed. The hub's joining. Document 01, "Final list".
use Rattle.std.specs.Prelude.{ℕ, ◌*◌, ◌≡◌, List, map}
use Rattle.sets.specs.Sets.{Mem, Lists, set_of}
use Rattle.sets.specs.States.{members}
use Rattle.sets.specs.NodeSet.{has_node, node_cells}
use Rattle.files.specs.Word.{words}
use Rattle.files.specs.Field.{file, answer_word}
use Rattle.files.specs.Refuse.{◌then◌, room_check, size_check}
use Rattle.files.specs.Outcome.{Outcome, outcome}
use Rattle.files.specs.Answers.{answers_of}
use Rattle.files.specs.Bundle.{second_bundle_check}
use Rattle.files.specs.Limits.{bundle_words, final_words}

-- the nodes of a set at the front of some bytes, ascending
abbrev pub nodes_in : List ℕ → List ℕ
nodes_in w = members (has_node w 0) 0 (16 * node_cells)

-- What a joined list is: the nodes of the bundle's answers, ascending, each once.
abbrev pub IsJoined : List ℕ → List ℕ → Type 0
IsJoined bundle f = (xs : List ℕ) × Lists (λ x. Mem x (answers_of bundle)) xs × (f ≡ file 15 0 0 (map answer_word xs))

-- the joined list, computed
unfoldable pub joined : List ℕ → List ℕ
joined bundle = file 15 0 0 (map answer_word (set_of (answers_of bundle)))

unfoldable pub join_call : ℕ → ℕ → List ℕ → Outcome
join_call out work bundle =
    outcome (room_check final_words out work then size_check bundle_words bundle then second_bundle_check (words bundle)) final_words (joined (words bundle))
