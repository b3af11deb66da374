-- Believed. A first reply: for each door a door word, then for each state with anything to report a row word and its reach words.
-- What the words so far say of the next, the reader's own struct. `low` is the least node of a next door, 0 before any door; `state` the
-- least state of a next row of this door; `last` the word before it, whose kind says whether a row is open (9) and whether a reach word may
-- come (9, 10).
use Rattle.files.specs.declared.reply.ReplySeen.{ReplySeen}
use Rattle.std.specs.Prelude.{ℕ, suc, Bool, false, cond, not, ◌&&◌, ◌||◌, List, [], ◌∷◌, map, eqb, leb, ltb}
use Rattle.sets.specs.Sets.{filter}
use Rattle.files.specs.Field.{bits, kind_of, labels_of, node_of, door_root_of, state_of, pair_of, pair_node, pair_state}
use Rattle.files.specs.Refuse.{◌then◌, ◌unless◌}
use Rattle.files.specs.Scan.{scan_words}

abbrev pub is_door_word : ℕ → Bool
is_door_word w = eqb (kind_of w) 8

-- the door word of node x
abbrev pub is_door_of : ℕ → ℕ → Bool
is_door_of x w = is_door_word w && eqb (node_of w) x

abbrev pub is_row : ℕ → Bool
is_row w = eqb (kind_of w) 9

abbrev pub is_reach : ℕ → Bool
is_reach w = eqb (kind_of w) 10

-- before the first word after the header
abbrev pub start : ReplySeen
start = record { last = 0; low = 0; state = 0; rooted = false }

abbrev pub next : ReplySeen → ℕ → ReplySeen
next st w =
    cond (is_door_word w)
    (record { last = w; low = suc (node_of w); state = 0; rooted = st.rooted || door_root_of w })
    (record { last = w; low = st.low; state = cond (is_row w) (suc (state_of w)) st.state; rooted = st.rooted })

-- an empty row shows at the word after it
abbrev pub door_check : ReplySeen → ℕ → ℕ
door_check st w =
    5 unless (eqb (bits 27 17 w) 0 && not (is_row st.last))
    then 6 unless leb st.low (node_of w)
    then 7 unless (not (door_root_of w) || not st.rooted)

abbrev pub row_check : ℕ → ReplySeen → ℕ → ℕ
row_check n st w =
    5 unless (eqb (bits 27 4 w) 0 && ltb 0 st.low && not (is_row st.last))
    then 10 unless leb (state_of w) n
    then 6 unless leb st.state (state_of w)

-- a row word is below every reach word
abbrev pub reach_check : ℕ → ReplySeen → ℕ → ℕ
reach_check n st w =
    5 unless (eqb (bits 27 20 w) 0 && (is_row st.last || is_reach st.last))
    then 10 unless leb (state_of w) n
    then 6 unless ltb st.last w

abbrev pub word_check : ℕ → ReplySeen → ℕ → ℕ
word_check n st w =
    cond (is_door_word w) (door_check st w) (cond (is_row w) (row_check n st w) (cond (is_reach w) (reach_check n st w) 5))

-- at the end of the words: an empty row
abbrev pub end_check : ReplySeen → ℕ
end_check st = 5 unless not (is_row st.last)

abbrev pub scan : ℕ → ReplySeen → List ℕ → ℕ
scan n st ws = scan_words (word_check n) next end_check st ws

-- the words after a header
abbrev pub reply_check : ℕ → List ℕ → ℕ
reply_check h ws = scan (labels_of h) start ws

abbrev pub doors : List ℕ → List ℕ
doors ws = map node_of (filter is_door_word ws)

abbrev pub roots : List ℕ → List ℕ
roots ws = map node_of (filter (λ w. is_door_word w && door_root_of w) ws)

-- the pairs of the reach words at the front
abbrev pub front : List ℕ → List ℕ
front [] = []
front (w ∷ ws) = cond (is_reach w) (pair_of w ∷ front ws) []

-- the pairs in the row of a state, in the rows at the front
abbrev pub row : List ℕ → ℕ → List ℕ
row [] q = []
row (w ∷ ws) q = cond (is_row w && eqb (state_of w) q) (front ws) (cond (is_row w || is_reach w) (row ws q) [])

-- the pairs that a pair's row holds
abbrev pub rows : List ℕ → ℕ → List ℕ
rows [] c = []
rows (w ∷ ws) c = cond (is_door_word w && eqb (node_of w) (pair_node c)) (row ws (pair_state c)) (rows ws c)
