-- Believed. A site's first reply. Document 01, "First reply".
use Rattle.std.specs.Prelude.{ℕ, ◌≤◌, ◌≡◌, not, get_or, drop}
use mathlib.Core.List.{List, [], ◌∷◌, map, flatten}
use Rattle.sets.specs.Sets.{Mem, Lists, filter, member}
use Rattle.files.specs.Field.{site_of, labels_of, node_of, root_of, file, pair, pair_node, pair_state, door_word, row_word, reach_word}
use Rattle.files.specs.Part.{is_door, nodes, roots, doors as partDoors}
use Rattle.expressions.specs.Expr.{Expr}
use Rattle.expressions.specs.Labels.{expr_of}
use Rattle.walks.specs.Product.{Walk, positions, reached}

-- Document 01: "(t, p) is reported if a walk from the door in state q ends in t and p, t is no node of the part, and all nodes before t are."
abbrev pub Reported : List ℕ → Expr → ℕ → ℕ → ℕ → ℕ → Type 0
Reported part e x q t p = Walk part e x q t p × (Mem t (nodes part) → ⊥)

-- the words of the row of state q, for its pairs: a row word and its reach words, or none where there is nothing to report
abbrev pub row_words : ℕ → List ℕ → List ℕ
row_words q [] = []
row_words q (c ∷ cs) = row_word q ∷ map reach_word (c ∷ cs)

-- the words of the door x of a part, with a row for each of some states: `pairs q` stands in the row of q
abbrev pub door_rows : List ℕ → (ℕ → List ℕ) → List ℕ → ℕ → List ℕ
door_rows part pairs states x = door_word x (member x (roots part)) ∷ flatten (map (λ q. row_words q (pairs q)) states)

-- What a first reply is, in document 01's words, however long it is: f, by the words of an accepted part and path. For each door, ascending by
-- node whether root or not, a door word; then for each state from 0 to n, ascending, its row, which holds what is reported, ascending. A stopped
-- door has its door word and no rows, as no walk starts there; what lies outside is reported, whether or not it is stopped there.
pub record IsFirstReply (part path f : List ℕ) : Type 0 where
  pub doors : List ℕ
  pub states : List ℕ
  pub pairs : ℕ → ℕ → List ℕ
  pub each_door : Lists (λ x. Mem x (partDoors (drop 1 part))) doors
  pub each_state : Lists (λ q. q ≤ labels_of (get_or path 0 0)) states
  pub each_row : (x q : ℕ) → Mem x doors → Mem q states
      → Lists (λ c. Reported (drop 1 part) (expr_of (drop 1 path)) x q (pair_node c) (pair_state c)) (pairs x q)
  pub is : f ≡ file 7 (site_of (get_or part 0 0)) (labels_of (get_or path 0 0))
      (flatten (map (λ x. door_rows (drop 1 part) (pairs x) states x) doors))

-- what is reported of a door in state q, computed
unfoldable pub reported : List ℕ → Expr → ℕ → ℕ → List ℕ
reported part e x q = filter (λ c. not (member (pair_node c) (nodes part))) (reached part e (pair x q ∷ []))

unfoldable pub door_words : List ℕ → Expr → ℕ → ℕ → List ℕ
door_words part e n w =
    door_word (node_of w) (root_of w) ∷ flatten (map (λ q. row_words q (reported part e (node_of w) q)) (0 ∷ positions n))

-- the first reply that a site owes: part and path are the words of accepted files
unfoldable pub first_reply : List ℕ → List ℕ → List ℕ
first_reply part path =
    let n = labels_of (get_or path 0 0) in
    file 7 (site_of (get_or part 0 0)) n
    (flatten (map (door_words (drop 1 part) (expr_of (drop 1 path)) n) (filter is_door (drop 1 part))))
