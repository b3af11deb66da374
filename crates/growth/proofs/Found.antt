-- A plant that has grown finds what it found, and so does a path or another; and the nodes that a search lists are those that walks find.
-- Assumes nothing.
use mathlib.Core.Path.{◌≡◌, sym, ap, subst, ◌∙◌}
use mathlib.Core.Logic.{inl}
use mathlib.Core.List.{List, [], ◌∷◌, ◌++◌, map}
use Prim.Native.Nat.{ℕ, ◌^◌, ◌<◌}
use lib.ListN.{drop}
use Rattle.sets.specs.Sets.{Lists}
use Rattle.sets.proofs.Filter.{map_append}
use Rattle.files.specs.Path.{path_check}
use Rattle.files.proofs.Ordered.{answers_read}
use Rattle.expressions.specs.Expr.{Expr, or}
use Rattle.expressions.specs.Postfix.{make_or, read}
use Rattle.expressions.specs.Labels.{item, or_empty, expr_of}
use Rattle.expressions.proofs.Postfix.{read_two}
use Rattle.expressions.proofs.Paths.{path_reads}
use Rattle.demands.specs.Plant.{Plant, Walk, FoundBy, FinalListBy}
use Rattle.demands.proofs.Comes.{walk_end, walk_kept}
use Rattle.growth.specs.Growth.{OneMore, Grown, or_word, Either, listed_in}

-- The walks of a plant are walks of one that has grown

pub one_grown : {p p' : Plant} → OneMore p p' → Grown p p'
one_grown o = record {
  nodes = λ x. (o.nodes x).0;
  roots = λ x. (o.roots x).0;
  stopped = λ x n. o.stopped x;
  links = λ x a y n l. (o.links x a y n).1 (inl l);
}

module _ {p p' : Plant} (g : Grown p p') where
  walk_more : {x y : ℕ} {w : List ℕ} → Walk p x w y → Walk p' x w y
  walk_more = walk_kept (λ x (n, r). (g.nodes x n, λ s. r (g.stopped x n s))) g.links

  pub found_more : (groups : List ℕ) (e : Expr) (x : ℕ) → FoundBy groups p e x → FoundBy groups p' e x
  found_more groups e x (r, w, k, v, m) = (r, w, g.roots r k, walk_more v, m)

pub found_or : (groups : List ℕ) (p : Plant) (a b : Expr) (x : ℕ) → FoundBy groups p a x → FoundBy groups p (or a b) x
found_or groups p a b x (r, w, k, v, m) = (r, w, k, v, inl m)

-- The expression of "that path or another"

pub or_expr : (path other path' : List ℕ) → path_check path ≡ 0 → path_check other ≡ 0 → Either path other path'
    → expr_of (drop 1 path') ≡ or (expr_of (drop 1 path)) (expr_of (drop 1 other))
or_expr path other path' a b o =
    let is = map item (drop 1 path) in
    let js = map item (drop 1 other) in
    ap expr_of o ∙ ap or_empty (
    ap (λ is. read is []) (map_append item (drop 1 path) (drop 1 other ++ (or_word ∷ [])) ∙ ap (is ++◌) (map_append item (drop 1 other) (or_word ∷ [])))
    ∙ read_two is js (expr_of (drop 1 path)) (expr_of (drop 1 other)) (path_reads path a) (path_reads other b) (make_or ∷ []))

-- The nodes of demand 2's list

pub final_lists : (groups : List ℕ) (p : Plant) (e : Expr) (f : List ℕ) → FinalListBy groups p e f → ((x : ℕ) → p.Node x → x < 2 ^ 16)
    → Lists (FoundBy groups p e) (listed_in f)
final_lists groups p e f (xs, l, q) h =
    subst (Lists (FoundBy groups p e)) (sym (ap listed_in q ∙ answers_read xs (λ y m. h y (walk_end (l.sound y m).3).0))) l
