-- Believed. The hub's call list. Document 01, "Call list".
use Rattle.std.specs.Prelude.{ℕ, ◌≡◌, Bool, not, List, map, get_or}
use Rattle.sets.specs.Sets.{Mem, Ascending, member, any}
use Rattle.sets.specs.Reach.{Least, closure}
use Rattle.files.specs.Word.{words}
use Rattle.files.specs.Field.{labels_of, file, pair, pair_node, call_word}
use Rattle.files.specs.Refuse.{◌then◌, ◌unless◌, room_check, size_check}
use Rattle.files.specs.Outcome.{Outcome, outcome}
use Rattle.files.specs.Reply.{doors, roots, rows}
use Rattle.files.specs.Bundle.{first_bundle_check}
use Rattle.files.specs.Limits.{reply_words, bundle_words}

-- Document 01: "the least set of (node, state) holding the root with 0 and closed under the replies' rows, ascending." What a call list is,
-- in those words: f, by the words of an accepted bundle.
pub record IsCallList (bundle f : List ℕ) : Type 1 where
  pub pairs : List ℕ
  pub ascending : Ascending pairs
  pub set : Least (λ c. Mem c (map (λ x. pair x 0) (roots bundle))) (λ c d. Mem d (rows bundle c)) (λ c. Mem c pairs)
  pub is : f ≡ file 11 0 (labels_of (get_or bundle 0 0)) (map call_word pairs)

-- the called pairs, computed
unfoldable pub called : List ℕ → List ℕ
called bundle = closure (rows bundle) (map (λ x. pair x 0) (roots bundle))

unfoldable pub call_list : List ℕ → List ℕ
call_list bundle = file 11 0 (labels_of (get_or bundle 0 0)) (map call_word (called bundle))

-- Document 02, request 5: "number 14 at the hub is given exactly if a pair of the call list's least set names a node that is no door. The set
-- takes such pairs in first and the check follows." It is the last check over all files, after 12, 7 and 13.
abbrev pub stray : List ℕ → ℕ → Bool
stray bundle c = not (member (pair_node c) (doors bundle))

abbrev pub stray_check : List ℕ → ℕ
stray_check bundle = 14 unless not (any (stray bundle) (called bundle))

unfoldable pub call_list_call : ℕ → ℕ → List ℕ → Outcome
call_list_call out work bundle =
    outcome (room_check reply_words out work then size_check bundle_words bundle then first_bundle_check (words bundle) then stray_check (words bundle)) reply_words
    (call_list (words bundle))
