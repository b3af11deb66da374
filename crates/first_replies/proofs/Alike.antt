-- Two paths that are read alike have the same first replies. Assumes nothing.
use mathlib.Core.Path.{◌≡◌, refl, sym, ap, ◌∙◌, fun_ext}
use mathlib.Core.Bool.{not}
use mathlib.Core.List.{List, [], ◌∷◌, map, flatten}
use Prim.Native.Nat.{ℕ}
use lib.ListN.{get_or, drop}
use Rattle.sets.specs.Sets.{filter, member}
use Rattle.files.specs.Field.{site_of, labels_of, node_of, root_of, file, pair, pair_node, door_word}
use Rattle.files.specs.Part.{is_door, nodes}
use Rattle.expressions.specs.Expr.{Expr}
use Rattle.expressions.specs.Labels.{holds, expr_of}
use Rattle.expressions.proofs.Loading.{Alike, SamePath}
use Rattle.walks.specs.Product.{positions, reached}
use Rattle.walks.proofs.Alike.{reached_same}
use Rattle.first_replies.specs.FirstReply.{reported, row_words, door_words, first_reply}

abbrev door_by : (ℕ → List ℕ) → ℕ → ℕ → List ℕ
door_by rows n w = door_word (node_of w) (root_of w) ∷ flatten (map (λ q. row_words q (rows q)) (0 ∷ positions n))

abbrev reply_by : (ℕ → ℕ → List ℕ) → List ℕ → ℕ → List ℕ
reply_by door part n = file 7 (site_of (get_or part 0 0)) n (flatten (map (door n) (filter is_door (drop 1 part))))

reported_is : (part : List ℕ) (e : Expr) (x q : ℕ)
    → reported part e x q ≡ filter (λ c. not (member (pair_node c) (nodes part))) (reached part e (pair x q ∷ []))
unfolding reported
reported_is part e x q = refl

door_is : (part : List ℕ) (e : Expr) (n w : ℕ) → door_words part e n w ≡ door_by (reported part e (node_of w)) n w
unfolding door_words
door_is part e n w = refl

reply_is : (part path : List ℕ) → first_reply part path ≡ reply_by (door_words (drop 1 part) (expr_of (drop 1 path))) part (labels_of (get_or path 0 0))
unfolding first_reply
reply_is part path = refl

module _ (part : List ℕ) {e e' : Expr} (s : Alike holds e e') where
  reported_same : (x q : ℕ) → reported part e x q ≡ reported part e' x q
  reported_same x q =
      reported_is part e x q ∙ ap (filter (λ c. not (member (pair_node c) (nodes part)))) (reached_same part s (pair x q ∷ []))
      ∙ sym (reported_is part e' x q)

  door_same : (n w : ℕ) → door_words part e n w ≡ door_words part e' n w
  door_same n w = door_is part e n w ∙ ap (λ rows. door_by rows n w) (fun_ext (reported_same (node_of w))) ∙ sym (door_is part e' n w)

pub first_same : (part : List ℕ) {path path' : List ℕ} → SamePath path path' → first_reply part path ≡ first_reply part path'
first_same part {path} {path'} s =
    reply_is part path
    ∙ ap (reply_by (door_words (drop 1 part) (expr_of (drop 1 path))) part) s.labels
    ∙ ap (λ door. reply_by door part (labels_of (get_or path' 0 0))) (fun_ext λ n. fun_ext λ w. door_same (drop 1 part) s.alike n w)
    ∙ sym (reply_is part path')
