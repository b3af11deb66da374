-- The words that a report owes are those of the definitions: a door's rows state by state, and the doors position by position. Assumes nothing.
use mathlib.Core.Path.{◌≡◌, refl, sym, ◌∙◌, ap}
use mathlib.Core.Bool.{Bool, true, false, cond}
use mathlib.Core.List.{List, [], ◌∷◌, ◌++◌, map, flatten, append-nil, append_assoc}
use Prim.Native.Nat.{ℕ, zero, suc, ◌+◌, ◌≤◌}
use native.Mathlib.Omega.{arith}
use native.Mathlib.Numerals.{add-one}
use lib.ListN.{length, get_or, take, drop}
use lib.Seq.{take-suc, take-length}
use Rattle.sets.specs.Sets.{filter}
use Rattle.sets.proofs.Filter.{filter_append}
use Rattle.files.specs.Field.{node_of, root_of, door_word}
use Rattle.files.specs.Part.{is_door, part_check}
use Rattle.expressions.specs.Expr.{Expr}
use Rattle.slots.specs.Slots.{node_at, number}
use Rattle.slots.proofs.Places.{header_node}
use Rattle.walks.specs.Product.{positions}
use Rattle.first_replies.specs.FirstReply.{door_words}
use Rattle.reporting.specs.Reporting.{row_at, rows_below, door_at, words_at, words_below}

pub flat_append : {A : Type 0} (f : A → List ℕ) (xs ys : List A) → flatten (map f (xs ++ ys)) ≡ flatten (map f xs) ++ flatten (map f ys)
unfolding flatten
flat_append f [] ys = refl
flat_append f (x ∷ xs) ys = rw (flat_append f xs ys, append_assoc)

-- ---- a door

rows_flat : (ws : List ℕ) (i : ℕ) (e : Expr) (n : ℕ) → rows_below ws i (suc n) e ≡ flatten (map (λ q. row_at ws i q e) (0 ∷ positions n))
unfolding flatten
rows_flat ws i e zero = sym (append-nil (row_at ws i 0 e))
rows_flat ws i e (suc n) =
    rw (rows_flat ws i e n, flat_append (λ q. row_at ws i q e) (0 ∷ positions n) (suc n ∷ []), append-nil)

-- a door's words are its door word v and its rows
pub door_is : (ws : List ℕ) (n i : ℕ) (e : Expr) {w v : ℕ} → w ≡ get_or ws i 0 → v ≡ door_word (node_of w) (root_of w) → v ∷ rows_below ws i (n + 1) e ≡ door_at ws n i e
unfolding door_words number
door_is ws n i e q h = rw (h, q, add-one) (ap (door_word (number ws i) (root_of (get_or ws i 0)) ∷◌) (rows_flat ws i e n))

-- ---- the doors

one_door : (f : ℕ → List ℕ) (w : ℕ) (b : Bool) → is_door w ≡ b → flatten (map f (filter is_door (w ∷ []))) ≡ cond b (f w) []
unfolding flatten
one_door f w true e = rw e (append-nil (f w))
one_door f w false e = rw e

-- the words of the first k positions are those of the doors among them
pub words_below_lem : (ws : List ℕ) (e : Expr) (n k : ℕ) → k ≤ length ws
    → words_below ws n k e ≡ flatten (map (door_words (drop 1 ws) e n) (filter is_door (take k ws)))
unfolding flatten
words_below_lem ws e n zero h = refl
words_below_lem ws e n (suc k) h =
    rw (
      take-suc ws k 0 (omega arith),
      filter_append is_door (take k ws),
      flat_append (door_words (drop 1 ws) e n) (filter is_door (take k ws)),
      one_door (door_words (drop 1 ws) e n) (get_or ws k 0) (is_door (get_or ws k 0)) refl,
    )
    (ap (λ x. x ++ words_at ws n k e) (words_below_lem ws e n k (omega arith)))

pub header_no_door : (ws : List ℕ) → node_at ws 0 ≡ false → filter is_door ws ≡ filter is_door (drop 1 ws)
unfolding node_at
header_no_door [] n = refl
header_no_door (h ∷ ws) n = rw n

-- of all positions, those of all doors
pub words_all : (ws : List ℕ) (e : Expr) (n : ℕ) → part_check ws ≡ 0
    → words_below ws n (length ws) e ≡ flatten (map (door_words (drop 1 ws) e n) (filter is_door (drop 1 ws)))
words_all ws e n c =
    words_below_lem ws e n (length ws) (omega arith)
    ∙ ap (λ x. flatten (map (door_words (drop 1 ws) e n) x)) (ap (filter is_door) (take-length ws) ∙ header_no_door ws (header_node ws c))
