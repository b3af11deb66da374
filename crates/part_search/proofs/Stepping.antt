-- Steps along the tables of a search lead from a node word to a slot; and tables that were kept serve as well. Assumes nothing.
use mathlib.Core.Path.{◌≡◌}
use mathlib.Core.Bool.{true}
use mathlib.Core.List.{List}
use Prim.Native.Nat.{ℕ, ◌≤◌, ◌<◌}
use native.Mathlib.Omega.{arith}
use lib.ListN.{length}
use Rattle.files.specs.Limits.{part_words}
use Rattle.expressions.specs.Expr.{Expr}
use Rattle.slots.specs.Slots.{node_at, Laid, Kept}
use Rattle.slots.proofs.Places.{edge_no_node}
use Rattle.slots.proofs.Storing.{laid_kept}
use Rattle.entering.proofs.Walking.{edge_kept}
use Rattle.part_search.specs.Search.{Step, Tables}

-- tables that were kept have the same steps
pub step_kept : {ws : List ℕ} {t : ℕ} {w w' : List ℕ} (follow : List ℕ) {i q j p : ℕ} → length ws ≤ part_words → Kept ws t w w' → Step ws w follow i q j p → Step ws w' follow i q j p
step_kept follow few k (b, (x, d), f) = (b, (x, edge_kept few k d), f)

-- a step leads from a node word
pub step_from : (ws w follow : List ℕ) (i q j p : ℕ) → Step ws w follow i q j p → node_at ws i ≡ true
step_from ws w follow i q j p (b, (x, d), f) = d.behind.node

-- a step leads to a slot
pub step_inside : (ws : List ℕ) (t : ℕ) (w follow : List ℕ) → Laid ws t w → (i q j p : ℕ) → i < length ws → Step ws w follow i q j p → j < length ws
step_inside ws t w follow laid i q j p l (b, (x, d), f) =
    rw (← d.target) (laid.below x d.behind.below (d.behind.edges x d.behind.after (omega arith)))

pub tables_kept : {ws : List ℕ} {e : Expr} {t : ℕ} {w w' : List ℕ} → Kept ws t w w' → Tables ws e t w → Tables ws e t w'
tables_kept {ws} k r =
    record {
      laid = laid_kept k r.laid;
      masked = λ x p l h. rw (k.masks x (omega (arith, r.laid.roomy.few)) (edge_no_node ws x h)) (r.masked x p l h);
    }
