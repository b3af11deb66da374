-- Believed. A part: a header, then node words strictly ascending by number, each followed by its edge words, strictly ascending; at most
-- one root, and a root is a door. A whole: a part with one root and every target among its nodes. Document 01, "Part".
use Rattle.std.specs.Prelude.{ℕ, suc, Bool, true, false, cond, not, ◌&&◌, ◌||◌, List, [], ◌∷◌, map, eqb, leb, ltb}
use Rattle.sets.specs.Sets.{set_of, filter, minus, member, any}
use Rattle.files.specs.declared.part.PartSeen.{PartSeen}
use Rattle.files.specs.Field.{bits, kind_of, node_of, door_of, root_of, stopped_of, target_of}
use Rattle.files.specs.Refuse.{◌then◌, ◌unless◌, file_check}
use Rattle.files.specs.Scan.{scan_words}

abbrev pub is_node : ℕ → Bool
is_node w = eqb (kind_of w) 2

abbrev pub is_edge : ℕ → Bool
is_edge w = eqb (kind_of w) 3

abbrev pub is_root : ℕ → Bool
is_root w = is_node w && root_of w

abbrev pub is_door : ℕ → Bool
is_door w = is_node w && door_of w

abbrev pub is_stopped : ℕ → Bool
is_stopped w = is_node w && stopped_of w

-- What the words so far say of the next, as the code keeps it (`PartSeen`): the word before it, the least number of a next node (0: no node
-- yet), whether there was a root.

-- before the first word after the header
abbrev pub start : PartSeen
start = record { last = 0; low = 0; rooted = false }

abbrev pub next : PartSeen → ℕ → PartSeen
next st w =
    record { last = w; low = cond (is_node w) (suc (node_of w)) st.low; rooted = st.rooted || is_root w }

abbrev pub node_check : PartSeen → ℕ → ℕ
node_check st w =
    5 unless eqb (bits 27 19 w) 0
    then 6 unless leb st.low (node_of w)
    then 7 unless (not (root_of w) || (door_of w && not st.rooted))

-- the last word is a node, which is below every edge, or the edge before
abbrev pub edge_check : PartSeen → ℕ → ℕ
edge_check st w = 5 unless ltb 0 st.low then 6 unless ltb st.last w

abbrev pub word_check : PartSeen → ℕ → ℕ
word_check st w = cond (is_node w) (node_check st w) (cond (is_edge w) (edge_check st w) 5)

abbrev pub scan : PartSeen → List ℕ → ℕ
scan st ws = scan_words word_check next (λ st. 0) st ws

abbrev pub part_check : List ℕ → ℕ
part_check ws = file_check 1 true false (λ h ws. scan start ws) ws

-- the nodes of a part's words
abbrev pub nodes : List ℕ → List ℕ
nodes ws = map node_of (filter is_node ws)

-- the nodes whose words have a mark: root, door, stopped
abbrev pub nodes_with : (ℕ → Bool) → List ℕ → List ℕ
nodes_with mark ws = map node_of (filter (λ w. is_node w && mark w) ws)

abbrev pub roots : List ℕ → List ℕ
roots ws = nodes_with root_of ws

abbrev pub doors : List ℕ → List ℕ
doors ws = nodes_with door_of ws

abbrev pub stopped : List ℕ → List ℕ
stopped ws = nodes_with stopped_of ws

-- the nodes that are not stopped
abbrev pub running : List ℕ → List ℕ
running ws = minus (nodes ws) (stopped ws)

-- an edge whose target is not among the nodes
abbrev pub lost : (ℕ → Bool) → ℕ → Bool
lost among w = is_edge w && not (among (target_of w))

-- 7 and 8, at the end of a whole
abbrev pub end_check : List ℕ → ℕ
end_check ws = 7 unless any is_root ws then 8 unless not (any (lost (λ x. member x (nodes ws))) ws)

abbrev pub whole_check : List ℕ → ℕ
whole_check ws = part_check ws then end_check ws

-- the edge words at the front
abbrev pub front : List ℕ → List ℕ
front [] = []
front (w ∷ ws) = cond (is_edge w) (w ∷ front ws) []

-- the edge words of a node
abbrev pub edges : List ℕ → ℕ → List ℕ
edges [] x = []
edges (w ∷ ws) x = cond (is_node w && eqb (node_of w) x) (front ws) (edges ws x)

-- the targets that are no nodes of the part, each once. Document 01, "outside targets"
abbrev pub outside : List ℕ → List ℕ
outside ws = filter (λ t. not (member t (nodes ws))) (set_of (map target_of (filter is_edge ws)))
