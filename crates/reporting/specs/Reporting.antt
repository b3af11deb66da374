-- Inner. What the functions of a first reply do to the tables of a search and to the output, and the words that each of them adds.
use Rattle.std.specs.Prelude.{◌≡◌, cond, List, [], ◌++◌, ℕ, zero, suc, ◌+◌, ◌*◌, ◌≤◌, length, get_or, take, drop}
use Rattle.sets.specs.Sets.{Mem, filter}
use Rattle.sets.specs.Reach.{Reach}
use Rattle.files.specs.Field.{labels_of, pair_node}
use Rattle.files.specs.Part.{is_door, nodes}
use Rattle.files.specs.Limits.{reply_words}
use Rattle.expressions.specs.Expr.{Expr}
use Rattle.expressions.specs.Labels.{expr_of}
use Rattle.output.specs.Writer.{Counts, Writes}
use Rattle.slots.specs.Slots.{number, Kept}
use Rattle.walks.specs.Product.{step_in}
use Rattle.part_search.specs.Search.{Begun, StepClosed, Sought, Follow, Tables}
use Rattle.first_replies.specs.FirstReply.{reported, row_words, door_words}
use Rattle.reporting.specs.Length.{Running, Adds}

-- ---- the tables

-- what is marked comes from pairs from which nothing outside the part is reached
pub record Idle (ws : List ℕ) (e : Expr) (w : List ℕ) : Type 0 where
  pub seeds : List ℕ
  pub sought : Sought ws e w seeds
  pub inside : (c : ℕ) → Reach (step_in (drop 1 ws) e) seeds c → Mem (pair_node c) (nodes (drop 1 ws))

-- tables where a search may begin, and need not enter again what is marked
pub record Ready (ws : List ℕ) (t : ℕ) (follow w : List ℕ) : Type 0 where
  pub begun : Begun ws t w 0
  pub closed : StepClosed ws follow w
  pub idle : (e : Expr) → Follow e follow → Tables ws e t w → Idle ws e w

-- after a search the tables are ready again, with the same slots and masks
pub record Again (ws : List ℕ) (t : ℕ) (follow w w' : List ℕ) : Type 0 where
  pub kept : Kept ws t w w'
  pub ready : Ready ws t follow w'

-- ---- a report

-- where a report may begin: the tables are ready, and the output has room for a first reply
pub record MayReport (ws : List ℕ) (t : ℕ) (follow w out : List ℕ) : Type 0 where
  pub ready : Ready ws t follow w
  pub room : 4 * reply_words ≤ length out

-- What a report does: the tables are ready again, and behind the `count` words of the output stand those that `owed` has of the expression; r
-- counts them all. That r is `count` and so many more holds whatever stands in the output.
pub record Reports (ws : List ℕ) (t : ℕ) (follow w out : List ℕ) (count : ℕ) (w' out' : List ℕ) (r : ℕ) (owed : Expr → List ℕ) : Type 0 where
  pub again : Again ws t follow w w'
  pub same : length out' ≡ length out
  pub adds : (e : Expr) → Follow e follow → Tables ws e t w → Writes reply_words (length out) out count out' r (owed e)
  pub counts : (e : Expr) → Follow e follow → Tables ws e t w → Counts reply_words count (length (owed e)) r

-- ---- the words that are owed

-- the row of state q at the door at position i
abbrev pub row_at : List ℕ → ℕ → ℕ → Expr → List ℕ
row_at ws i q e = row_words q (reported (drop 1 ws) e (number ws i) q)

-- the rows of the states below k at the door at position i
abbrev pub rows_below : List ℕ → ℕ → ℕ → Expr → List ℕ
rows_below ws i zero e = []
rows_below ws i (suc k) e = rows_below ws i k e ++ row_at ws i k e

-- the door at position i with its rows, in the states up to n
abbrev pub door_at : List ℕ → ℕ → ℕ → Expr → List ℕ
door_at ws n i e = door_words (drop 1 ws) e n (get_or ws i 0)

-- the words of position i: those of a door, where one stands there
abbrev pub words_at : List ℕ → ℕ → ℕ → Expr → List ℕ
words_at ws n i e = cond (is_door (get_or ws i 0)) (door_at ws n i e) []

-- the words of the first k positions
abbrev pub words_below : List ℕ → ℕ → ℕ → Expr → List ℕ
words_below ws n zero e = []
words_below ws n (suc k) e = words_below ws n k e ++ words_at ws n k e

-- ---- the running length

-- the tables are those of a path with n labels
pub record Asks (ws : List ℕ) (t : ℕ) (follow w : List ℕ) (n : ℕ) (path : List ℕ) : Type 0 where
  pub labels : labels_of (get_or path 0 0) ≡ n
  pub follows : Follow (expr_of (drop 1 path)) follow
  pub tables : Tables ws (expr_of (drop 1 path)) t w

-- how many doors stand before position i; the door that comes next, at i or behind it, has this number
abbrev pub doors_before : List ℕ → ℕ → ℕ
doors_before ws i = length (filter is_door (take i ws))

-- the work of the door at position i takes the value to r: it adds just the door's own words
abbrev pub DoorAdds : List ℕ → ℕ → List ℕ → List ℕ → ℕ → ℕ → ℕ → ℕ → Type 0
DoorAdds ws t follow w n i value r = (path : List ℕ) → Asks ws t follow w n path → Adds ws path (doors_before ws i) value r

-- before position i the value is the count of the words up to the door that comes next
abbrev pub RunsAt : List ℕ → ℕ → List ℕ → List ℕ → ℕ → ℕ → ℕ → Type 0
RunsAt ws t follow w n i value = (path : List ℕ) → Asks ws t follow w n path → Running ws path (doors_before ws i) value

-- past position i it is so again: if the value was before it, r is behind it
abbrev pub RunsPast : List ℕ → ℕ → List ℕ → List ℕ → ℕ → ℕ → ℕ → ℕ → Type 0
RunsPast ws t follow w n i value r =
    (path : List ℕ) → Asks ws t follow w n path → Running ws path (doors_before ws i) value → Running ws path (doors_before ws (i + 1)) r
