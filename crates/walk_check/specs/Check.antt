-- Believed. The checker's calls, without groups and with the customer's. Document 02, request 10: "It says no to all other bytes as a walk and refuses
-- only for a short buffer, the file, any groups and the path."
use Rattle.std.specs.Prelude.{ℕ, suc, Bool, false, cond, ◌&&◌, List, [], ◌∷◌, eqb, length, drop}
use Rattle.files.specs.Word.{words}
use Rattle.files.specs.Refuse.{◌then◌, room_check, size_check}
use Rattle.files.specs.Outcome.{Outcome, outcome, LeftLent, leaves_lent}
use Rattle.files.specs.Part.{whole_check}
use Rattle.files.specs.Path.{path_check}
use Rattle.files.specs.Groups.{groups_check, loaded}
use Rattle.files.specs.Limits.{shown_words, path_words, walk_words}
use Rattle.expressions.specs.Labels.{holds, expr_of}
use Rattle.file_walks.specs.Walks.{runs_in}
use Rattle.walk_check.specs.Checker.{check}

-- the header is just its own count of words
abbrev pub headed : List ℕ → Bool
headed [] = false
headed (h ∷ ws) = eqb h (suc (length ws))

-- of any bytes as a walk: in fours, some, not over 4,096 words, the header just its own count, and the links lead to y
unfoldable pub says_yes : List ℕ → List ℕ → ℕ → List ℕ → Bool
says_yes whole path y walk =
    eqb (size_check walk_words walk) 0 && headed (words walk)
    && check holds (runs_in (drop 1 whole)) (drop 1 whole) (expr_of (drop 1 path)) y (drop 1 (words walk))

abbrev pub yes_of : Bool → ℕ
yes_of b = cond b 1 0

-- there is no output: a result of no words in one of no bytes
unfoldable pub check_walk_call : ℕ → List ℕ → List ℕ → Outcome
check_walk_call work whole path =
    outcome
    (room_check 0 0 work then size_check shown_words whole then whole_check (words whole) then size_check path_words path then path_check (words path))
    0
    []

unfoldable pub check_walk_grouped_call : ℕ → List ℕ → List ℕ → List ℕ → Outcome
check_walk_grouped_call work whole groups path =
    outcome
    (room_check 0 0 work then size_check shown_words whole then whole_check (words whole) then groups_check groups
    then size_check path_words path then path_check (words path))
    0
    []

-- what the calls leave: their number, yes as 1 and no as 0, which is 0 on a refusal too, and the working buffer
abbrev pub leaves_checked : ℕ → List ℕ → List ℕ → ℕ → List ℕ → LeftLent
leaves_checked work whole path y walk =
    leaves_lent (check_walk_call work whole path) 0 (yes_of (says_yes (words whole) (words path) y walk)) 0 work

abbrev pub leaves_checked_grouped : ℕ → List ℕ → List ℕ → List ℕ → ℕ → List ℕ → LeftLent
leaves_checked_grouped work whole groups path y walk =
    leaves_lent (check_walk_grouped_call work whole groups path) 0 (yes_of (says_yes (words whole) (loaded (words groups) (words path)) y walk)) 0 work
