-- Believed. The best walk, computed. Document 02, request 10; that it is the best of all accepted walks is `find_best`. By how many links a pair (node, state) arrives at y in an accepting state, backward from there, level by level; then from the root,
-- link by link, the lowest edge word by which some state of those at hand still arrives in time.
use Rattle.std.specs.Prelude.{Bool, true, ◌&&◌, length, get_or}
use mathlib.Core.List.{List, [], ◌∷◌, map, flatten}
use Rattle.std.proofs.Math.Option.{Option, none, some}
use Prim.Native.Nat.{ℕ, zero, suc}
use Rattle.sets.specs.Sets.{member, any, filter}
use Rattle.sets.specs.States.{members}
use Rattle.files.specs.Field.{label_of, target_of, pair, pair_node, pair_state}
use Rattle.files.specs.Part.{edges, nodes, roots}
use Rattle.expressions.specs.Expr.{Expr, count}
use Rattle.expressions.specs.Positions.{accepts}
use Rattle.file_walks.specs.Moving.{moved}

-- the first of some words and what follows it; nothing if there are none
abbrev pub first : List ℕ → (ℕ → List ℕ) → List ℕ
first [] f = []
first (w ∷ ws) f = w ∷ f w

-- what is made of the least of some numbers, ascending
abbrev pub least : (ℕ → List ℕ) → List ℕ → Option (List ℕ)
least f [] = none
least f (d ∷ ds) = some (f d)

-- every pair of a node and a state, and the pairs that have arrived at y
unfoldable pub pairs : List ℕ → Expr → List ℕ
unfolding flatten
pairs body e = flatten (map (λ x. map (pair x) (members (λ q. true) 0 (suc (count e)))) (nodes body))

unfoldable pub arrived : Expr → ℕ → List ℕ
arrived e y = map (pair y) (members (accepts e) 0 (suc (count e)))

module _ (holds : ℕ → ℕ → Bool) (running : ℕ → Bool) (body : List ℕ) (e : Expr) where
  -- x's edges that `near` lets pass: the states s at x move by it to one that is near
  abbrev pub opens : (ℕ → ℕ → Bool) → ℕ → List ℕ → List ℕ
  opens near x s = filter (λ w. running (target_of w) && any (near (target_of w)) (moved holds e s (label_of w))) (edges body x)

  -- d links from x with the states s, each the lowest; `near i x q` tells whether (x, q) arrives by i links
  unfoldable pub choose : (ℕ → ℕ → ℕ → Bool) → ℕ → ℕ → List ℕ → List ℕ
  choose near zero x s = []
  choose near (suc d) x s = first (opens (near d) x s) (λ w. choose near d (target_of w) (moved holds e s (label_of w)))

  -- the pairs that one link takes to a pair of the level
  unfoldable pub back : List ℕ → List ℕ
  unfolding pairs
  back level =
      filter (λ c. any (λ w. running (target_of w)
      && any (λ p. member (pair (target_of w) p) level) (moved holds e (pair_state c ∷ []) (label_of w))) (edges body (pair_node c))) (pairs body e)

  -- n levels, the first one given
  unfoldable pub levels : ℕ → List ℕ → List (List ℕ)
  unfolding back
  levels zero level = []
  levels (suc n) level = level ∷ levels n (back level)

  -- from the first root, by the least number of links below n that is near enough
  abbrev pub from_root : (ℕ → ℕ → ℕ → Bool) → ℕ → List ℕ → Option (List ℕ)
  from_root near n [] = none
  from_root near n (r ∷ rs) = least (λ d. choose near d r (0 ∷ [])) (members (λ d. near d r 0) 0 n)

  -- the best walk to y; as many levels as there are pairs, and one more, are enough
  unfoldable pub find : ℕ → Option (List ℕ)
  unfolding choose pairs levels arrived
  find y =
      let n : ℕ = suc (length (pairs body e)) in
      let all : List (List ℕ) = levels n (arrived e y) in
      from_root (λ d x q. member (pair x q) (get_or all d [])) n (filter running (roots body))
