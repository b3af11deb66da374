-- The old search: its list holds the nodes reached from the root's pair in an accepting state; it is no longer than the file, and so never refused.
-- Assumes nothing.
use mathlib.Core.Path.{◌≡◌, refl}
use mathlib.Core.List.{List, map}
use Prim.Native.Nat.{ℕ, ◌≤◌, ◌<◌}
use native.Mathlib.Omega.{arith}
use lib.ListN.{length, drop, length-map, length-drop}
use Rattle.files.specs.Field.{file, pair, answer_word}
use Rattle.files.specs.Part.{roots}
use Rattle.expressions.specs.Labels.{expr_of}
use Rattle.walks.specs.Product.{answers}
use Rattle.walks.proofs.Product.{answers_length}
use Rattle.old.specs.Old.{listed}

-- the pairs of the root, from which it searches
abbrev pub root_pairs : List ℕ → List ℕ
root_pairs f = map (λ x. pair x 0) (roots (drop 1 f))

pub listed_is : (f path : List ℕ) → listed f path ≡ file 15 0 0 (map answer_word (answers (drop 1 f) (expr_of (drop 1 path)) (root_pairs f)))
unfolding listed
listed_is f path = refl

pub listed_length : (f path : List ℕ) → 0 < length f → length (listed f path) ≤ length f
listed_length f path h =
    let e = expr_of (drop 1 path) in
    rw listed_is (omega (
      arith,
      length-map (answers (drop 1 f) e (root_pairs f)) answer_word,
      answers_length (drop 1 f) e (root_pairs f),
      length-drop 1 f,
    ))
