-- Laws of the words of a door's rows: a state less, what a word changes, a reach word's node. Assumes nothing.
use mathlib.Core.Path.{◌≡◌, refl, sym, ◌∙◌}
use mathlib.Core.Bool.{Bool, true, false, not, ◌&&◌, ◌||◌}
use Prim.Native.Nat.{ℕ, ◌*◌, ◌<◌}
use native.Mathlib.Omega.{arith}
use lib.Dec.{eqb}
use Rattle.sets.specs.States.{has_state}
use Rattle.sets.specs.NodeSet.{node_cells}
use Rattle.sets.proofs.StateSets.{has_empty}
use Rattle.sets.proofs.Cases.{clash}
use Rattle.files.specs.Field.{state_of, pair_of, pair_node}
use Rattle.files.specs.Reply.{is_row}
use Rattle.row_scan.specs.declared.rows.Rows.{Rows}
use Rattle.row_scan.specs.Following.{TurnsRow}

-- a state less: v has q alone
pub without_state : (s v r q : ℕ) → ((p : ℕ) → has_state v p ≡ (has_state 0 p || eqb p q)) → ((p : ℕ) → has_state r p ≡ (has_state s p && not (has_state v p)))
    → (p : ℕ) → has_state r p ≡ (has_state s p && not (eqb p q))
without_state s v r q e f p = f p ∙ rw (e p, has_empty p)

-- for the proof of `turn`
pub turns_row : {a : Rows} {w q left : ℕ} {b on : Bool} → b ≡ is_row w → b ≡ true → q ≡ state_of w → ((p : ℕ) → has_state left p ≡ (has_state a.left p && not (eqb p q)))
    → on ≡ has_state a.left q → TurnsRow a w (record { left = left; on = on })
turns_row eb t eq el eo = record { on = λ k. rw (← eq) eo; left = λ k p. rw (← eq) (el p); other = λ k. absurd (clash (sym eb ∙ t) k) }

pub turns_none : {a : Rows} {w : ℕ} {b : Bool} → b ≡ is_row w → b ≡ false → TurnsRow a w a
turns_none eb t = record { on = λ k. absurd (clash k (sym eb ∙ t)); left = λ k. absurd (clash k (sym eb ∙ t)); other = λ k. refl }

-- the node of a reach word
pub reach_below : {x : ℕ} (w : ℕ) → x ≡ pair_node (pair_of w) → x < 16 * node_cells
reach_below w e = omega arith
