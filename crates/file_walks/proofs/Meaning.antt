-- Which walks are accepted, and which is the best, depends on the words of the expression alone. So a path with the customer's groups loaded accepts the
-- walks that the path accepts with group g read by word g. Assumes nothing.
use mathlib.Core.Logic.{◌↔◌}
use mathlib.Core.Bool.{Bool}
use mathlib.Core.List.{List, map}
use Prim.Native.Nat.{ℕ}
use lib.ListN.{drop}
use Rattle.files.specs.Field.{label_of}
use Rattle.files.specs.Groups.{load, loaded, our_groups, Ranges}
use Rattle.files.proofs.Groups.{loaded_body}
use Rattle.expressions.specs.Expr.{Expr, Matches}
use Rattle.expressions.specs.Labels.{holds, holds_by, expr_of}
use Rattle.expressions.proofs.Loading.{grouped_meaning}
use Rattle.file_walks.specs.Walks.{Accepted, Best, IsWalkBy, IsBestBy}

module _ (runs : ℕ → Bool) (body : List ℕ) (y : ℕ) where
  accepted_read : (holds holds' : ℕ → ℕ → Bool) (e e' : Expr) → ((w : List ℕ) → Matches holds e w → Matches holds' e' w) → (ws : List ℕ)
      → Accepted holds runs body e y ws → Accepted holds' runs body e' y ws
  accepted_read holds holds' e e' same ws a =
      record { root = a.root; is_root_lem = a.is_root_lem; starts = a.starts; along = a.along; word = same (map label_of ws) a.word }

  best_read : (holds holds' : ℕ → ℕ → Bool) (e e' : Expr) → ((w : List ℕ) → Matches holds e w ↔ Matches holds' e' w) → (ws : List ℕ)
      → Best holds runs body e y ws → Best holds' runs body e' y ws
  best_read holds holds' e e' same ws b = record {
    accepted = accepted_read holds holds' e e' (λ w. (same w).0) ws b.accepted;
    shortest = λ vs a. b.shortest vs (accepted_read holds' holds e' e (λ w. (same w).1) vs a);
    lowest = λ vs a. b.lowest vs (accepted_read holds' holds e' e (λ w. (same w).1) vs a);
  }

module _ (groups : List ℕ) (ranges : Ranges groups) (whole path : List ℕ) (y : ℕ) (ws : List ℕ) where
  means : (w : List ℕ) → Matches holds (expr_of (map (load groups) (drop 1 path))) w ↔ Matches (holds_by groups) (expr_of (drop 1 path)) w
  means = grouped_meaning groups ranges (drop 1 path)

  pub walk_loaded : IsWalkBy our_groups whole (loaded groups path) y ws ↔ IsWalkBy groups whole path y ws
  walk_loaded = rw (loaded_body groups path) (accepted_read _ _ y _ _ _ _ (λ w. (means w).0) ws, accepted_read _ _ y _ _ _ _ (λ w. (means w).1) ws)

  pub best_loaded : IsBestBy our_groups whole (loaded groups path) y ws ↔ IsBestBy groups whole path y ws
  best_loaded = rw (loaded_body groups path) (best_read _ _ y _ _ _ _ means ws, best_read _ _ y _ _ _ _ (λ w. ((means w).1, (means w).0)) ws)
