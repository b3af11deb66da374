-- Believed. The triple edition: plants of the first release, a root word, then source, label, target as three full words, in any order, with
-- repeats; the whole file of one, and the triples of a whole file. Document 02, request 8.
use Rattle.std.specs.Prelude.{ℕ, ◌+◌, ◌*◌, ◌/◌, ◌%◌, ◌^◌, ◌<◌, ◌≡◌, ◌↔◌, ◌⊎◌, Bool, false, cond, not, ◌&&◌, ◌||◌, eqb, leb, ltb, length, get_or, drop}
use mathlib.Core.List.{List, [], ◌∷◌, ◌++◌, map, flatten}
use Rattle.sets.specs.Sets.{Mem, Lists, set_of, filter, member, any}
use Rattle.files.specs.Field.{site_of, node_of, root_of, label_of, target_of, file, node_word, edge_word}
use Rattle.files.specs.Refuse.{◌then◌, ◌unless◌}
use Rattle.files.specs.Part.{is_node, is_edge, is_stopped, nodes, roots, doors, stopped, edges, whole_check}

pub record Triple : Type 0 where
  pub source : ℕ
  pub label : ℕ
  pub target : ℕ

abbrev pub triple : ℕ → ℕ → ℕ → Triple
triple x a y = record { source = x; label = a; target = y }

-- the triples of words, by threes; up to two words at the end are no triple
abbrev pub triples_of : List ℕ → List Triple
triples_of [] = []
triples_of (x ∷ []) = []
triples_of (x ∷ a ∷ []) = []
triples_of (x ∷ a ∷ y ∷ ws) = triple x a y ∷ triples_of ws

-- the words of a triple file: its root, and its triples
abbrev pub root_word : List ℕ → ℕ
root_word ws = get_or ws 0 0

abbrev pub triples_in : List ℕ → List Triple
triples_in ws = triples_of (drop 1 ws)

-- 18: "a word too large for its field or a count that isn't one more than a multiple of three"
abbrev pub in_fields : Triple → Bool
in_fields t = leb t.source 65535 && leb t.label 4095 && leb t.target 65535

abbrev pub triples_check : List ℕ → ℕ
triples_check ws = 18 unless (eqb (length ws % 3) 1 && leb (root_word ws) 65535 && not (any (λ t. not (in_fields t)) (triples_in ws)))

-- A triple whose words are in their fields is one number, source, label, target from high to low: "sorted by source, label, target" is sorted as
-- these numbers are (`key_less`).
abbrev pub key_of : Triple → ℕ
key_of t = t.source * 2 ^ 28 + t.label * 2 ^ 16 + t.target

abbrev pub source_in : ℕ → ℕ
source_in k = k / 2 ^ 28

abbrev pub label_in : ℕ → ℕ
label_in k = k / 2 ^ 16 % 2 ^ 12

abbrev pub target_in : ℕ → ℕ
target_in k = k % 2 ^ 16

-- the triples of a file, sorted, each once
abbrev pub keys_in : List ℕ → List ℕ
keys_in ws = set_of (map key_of (triples_in ws))

-- What the whole file of a root and some triples is: "nodes are the root and all ends, links the triples, each once; the site is 0 and only the
-- root a door"; and no node is stopped.

-- x is the root or an end of a triple
abbrev pub IsEnd : ℕ → List Triple → ℕ → Type 0
IsEnd root ts x = (x ≡ root) ⊎ ((t : Triple) × Mem t ts × ((t.source ≡ x) ⊎ (t.target ≡ x)))

-- the node x has an edge with label a and target y
abbrev pub HasEdge : List ℕ → ℕ → ℕ → ℕ → Type 0
HasEdge f x a y = (w : ℕ) × Mem w (edges (drop 1 f) x) × (label_of w ≡ a) × (target_of w ≡ y)

-- the node x has a link out or a link in
abbrev pub HasLink : List ℕ → ℕ → Type 0
HasLink f x = ((a : ℕ) × (y : ℕ) × HasEdge f x a y) ⊎ ((y : ℕ) × (a : ℕ) × HasEdge f y a x)

pub record IsWholeOf (root : ℕ) (ts : List Triple) (f : List ℕ) : Type 0 where
  pub accepted : whole_check f ≡ 0
  pub word : (w : ℕ) → Mem w f → w < 2 ^ 32
  pub site : site_of (get_or f 0 0) ≡ 0
  pub all_nodes : Lists (IsEnd root ts) (nodes (drop 1 f))
  pub one_root : roots (drop 1 f) ≡ root ∷ []
  pub only_door : doors (drop 1 f) ≡ root ∷ []
  pub none_stopped : stopped (drop 1 f) ≡ []
  pub links : (x a y : ℕ) → HasEdge f x a y ↔ Mem (triple x a y) ts

-- and computed
abbrev pub ends_of : ℕ → List Triple → List ℕ
ends_of root ts = set_of (root ∷ map (λ t. t.source) ts ++ map (λ t. t.target) ts)

-- the edge word of a triple
abbrev pub edge_of : ℕ → ℕ
edge_of k = edge_word (label_in k) (target_in k)

-- the edges of node x, of sorted triples
abbrev pub links_of : List ℕ → ℕ → List ℕ
links_of keys x = map edge_of (filter (λ k. eqb (source_in k) x) keys)

abbrev pub node_words : ℕ → List ℕ → ℕ → List ℕ
node_words root keys x = node_word x (eqb x root) (eqb x root) false ∷ links_of keys x

unfoldable pub whole_of : ℕ → List Triple → List ℕ
whole_of root ts = file 1 0 0 (flatten (map (node_words root (set_of (map key_of ts))) (ends_of root ts)))

-- of the words of a triple file
abbrev pub from_triples : List ℕ → List ℕ
from_triples ws = whole_of (root_word ws) (triples_in ws)

-- Back

-- the triple of an edge word of node x
abbrev pub link_of : ℕ → ℕ → ℕ
link_of x w = key_of (triple x (label_of w) (target_of w))

-- the triples of the edge words, each with the node before it
abbrev pub keys_from : ℕ → List ℕ → List ℕ
keys_from x [] = []
keys_from x (w ∷ ws) = cond (is_node w) (keys_from (node_of w) ws) (link_of x w ∷ keys_from x ws)

-- the words of a triple, and of triples
abbrev pub words_of : List ℕ → List ℕ
words_of [] = []
words_of (k ∷ ks) = source_in k ∷ label_in k ∷ target_in k ∷ words_of ks

abbrev pub root_in : List ℕ → ℕ
root_in ws = get_or (roots ws) 0 0

abbrev pub to_triples : List ℕ → List ℕ
to_triples f = root_in (drop 1 f) ∷ words_of (keys_from 0 (drop 1 f))

-- 19: "what triples can't say: a stopped node, or a node other than the root with no link in or out". A loop is a link.
abbrev pub is_linked : List ℕ → ℕ → Bool
is_linked ws x = ltb 0 (length (edges ws x)) || member x (map target_of (filter is_edge ws))

abbrev pub say_check : List ℕ → ℕ
say_check f =
    let ws = drop 1 f in
    19 unless not (any is_stopped ws)
    then 19 unless not (any (λ x. not (eqb x (root_in ws) || is_linked ws x)) (nodes ws))

-- "the same whole file with site 0 and only the root as door"
abbrev pub plain_word : ℕ → ℕ
plain_word w = cond (is_node w) (node_word (node_of w) (root_of w) (root_of w) false) w

abbrev pub plain : List ℕ → List ℕ
plain f = file 1 0 0 (map plain_word (drop 1 f))
