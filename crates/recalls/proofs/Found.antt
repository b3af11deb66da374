-- The plant's walks are those by edge words of its file: a node is on demand 2's list exactly if a walk to it is accepted. Assumes nothing.
use mathlib.Core.Path.{◌≡◌, refl, sym, subst, ap₂}
use mathlib.Core.Logic.{◌↔◌}
use mathlib.Core.List.{List, [], ◌∷◌, map}
use Prim.Native.Nat.{ℕ}
use lib.Dec.{T}
use lib.ListN.{drop}
use Rattle.files.specs.Field.{label_of, target_of}
use Rattle.expressions.specs.Expr.{Matches}
use Rattle.expressions.specs.Labels.{holds_by, expr_of}
use Rattle.file_walks.specs.Walks.{Along, runs_in, IsWalkBy}
use Rattle.file_walks.proofs.Running.{runs_iff}
use Rattle.demands.specs.Plant.{Walk, stay, go, Running, FoundBy, body}
use Rattle.demands.specs.PlantOf.{plant_of}

module _ (whole : List ℕ) where
  walk_start : {x z : ℕ} {w : List ℕ} → Walk (plant_of whole) x w z → Running (plant_of whole) x
  walk_start (stay r) = r
  walk_start (go r l k) = r

  walk_along : {x z : ℕ} {w : List ℕ} → Walk (plant_of whole) x w z → (ws : List ℕ) × Along (runs_in (body whole)) (body whole) x ws z × (map label_of ws ≡ w)
  walk_along (stay r) = ([], refl, refl)
  walk_along (go {z = z} r (v, m, l, t) k) =
      let (ws, a, q) = walk_along k in (
        v ∷ ws,
        (m, subst (λ y. T (runs_in (body whole) y)) (sym t) ((runs_iff (body whole) _).1 (walk_start k)), subst (λ y. Along (runs_in (body whole)) (body whole) y ws z) (sym t) a),
        ap₂ ◌∷◌ l q,
      )

  along_walk : (ws : List ℕ) (x z : ℕ) → T (runs_in (body whole) x) → Along (runs_in (body whole)) (body whole) x ws z → Walk (plant_of whole) x (map label_of ws) z
  along_walk [] x z r a = subst (Walk (plant_of whole) x []) a (stay ((runs_iff (body whole) x).0 r))
  along_walk (w ∷ ws) x z r a = go ((runs_iff (body whole) x).0 r) (w, a.0, refl, refl) (along_walk ws (target_of w) z a.1 a.2)

  pub found_iff : (groups path : List ℕ) (y : ℕ) → FoundBy groups (plant_of whole) (expr_of (drop 1 path)) y ↔ ((ws : List ℕ) × IsWalkBy groups whole path y ws)
  found_iff groups path y = (
    λ (r, w, i, k, m).
        let (ws, a, q) = walk_along k in (
          ws,
          record {
            root = r;
            is_root_lem = i;
            starts = (runs_iff (body whole) r).1 (walk_start k);
            along = a;
            word = subst (Matches (holds_by groups) (expr_of (drop 1 path))) (sym q) m;
          },
        ),
    λ (ws, a). (a.root, map label_of ws, a.is_root_lem, along_walk ws a.root y a.starts a.along, a.word),
  )
