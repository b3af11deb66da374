-- The call: what passed checks say, and what it answers. Assumes nothing.
use mathlib.Core.Path.{◌≡◌, refl}
use mathlib.Core.List.{List, [], ◌∷◌}
use Prim.Native.Nat.{ℕ, ◌*◌, ◌≤◌}
use native.Mathlib.Omega.{arith}
use Rattle.files.specs.Refuse.{◌then◌, room_check}
use Rattle.files.specs.Outcome.{lent_by}
use Rattle.files.specs.Limits.{part_words}
use Rattle.files.proofs.Checks.{checks}
use Rattle.output.specs.Writer.{Filed}
use Rattle.output.specs.Frame.{also, Checked, Passed, Responds}
use Rattle.output.proofs.Frame.{passed, answer_filed, lent_given}
use Rattle.draws.specs.Draws.{drawn}
use Rattle.edge_draws.specs.Bounds.{Within}
use Rattle.generator.specs.Generate.{generated, spent, bounds_check, generate_call}
use Rattle.generator.proofs.Wholes.{generated_fits}

pub within : (n e : ℕ) → bounds_check n e ≡ 0 → Within n e
within n e b = let h = simp checks at b in record { some = h.0.0.0; few = h.0.0.1; short = h.1 }

module _ (n e : ℕ) {a m k : ℕ} (c : Checked part_words a m (also (bounds_check n e) ∷ []) k) where
  -- all passed
  pub writable : k ≡ 0 → {l : ℕ} → l ≡ a → Within n e × (4 * part_words ≤ l)
  writable z q =
      let p : Passed part_words a m (also (bounds_check n e) ∷ []) = passed z c refl refl in
      (within n e p.read.0, omega (arith, p.room.holds))

  -- the file is written
  pub responds_written : (s : ℕ) {out : List ℕ} {r t : ℕ} → k ≡ 0 → Filed part_words a (generated (drawn s) n e) out r × (t ≡ spent s n e)
      → Responds (generate_call a m s n e) a out r × (t ≡ lent_by (generate_call a m s n e) s (spent s n e))
  unfolding generate_call
  responds_written s z (f, q) =
      let x = room_check part_words a m then bounds_check n e in
      let short = generated_fits (drawn s) (writable z refl).0 in (
        answer_filed x part_words (generated (drawn s) n e) a c.is z f,
        rw q (lent_given x part_words (generated (drawn s) n e) s (spent s n e) c.is z (omega arith)),
      )
