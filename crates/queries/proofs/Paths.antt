-- A path's words: the scan by the operands that wait, and what an accepted word says.
-- Assumes nothing.
use mathlib.Core.Path.{◌≡◌, refl}
use mathlib.Core.Bool.{Bool, true, false, cond, ◌&&◌}
use mathlib.Core.List.{List}
use Prim.Native.Nat.{ℕ, suc, ◌-◌, ◌≤◌}
use native.Mathlib.Omega.{arith}
use lib.Dec.{eqb, leb}
use borrow.Author.Tests.{eqb-true}
use Rattle.std.specs.Prelude.{Ok, Err}
use Rattle.files.specs.declared.expr.ExprWord.{ExprWord}
use Rattle.files.specs.declared.refusal.Refusal.TheVariants.{WrongWord}
use Rattle.files.specs.Refuse.{◌unless◌}
use Rattle.files.specs.Limits.{most_waiting}
use Rattle.files.specs.Path.{takes, waits, word_check, end_check, scan}
use Rattle.files.specs.Expr.{expr_check, expr_at}
use Rattle.files.specs.Scan.{scan_words}
use Rattle.files.proofs.Checks.{checks, passed_first}
use Rattle.files.proofs.Scans.{scan_kept}
use Rattle.queries.specs.declared.path.Waiting.{Waiting}
use Rattle.queries.specs.Waiting.{waiting_after}

-- the scan of a path by the operands that wait
pub scan_waiting : (ws : List ℕ)
    → scan_words (λ (s : Waiting) w. word_check most_waiting s.0 w) waiting_after (λ (s : Waiting). end_check s.0) (record { 0 = 0 }) ws ≡ scan most_waiting 0 ws
scan_waiting = scan_kept (word_check most_waiting) waits end_check _ _ _ (λ n. record { 0 = n }) (λ n w. refl) (λ n w. refl) (λ n. refl) 0

-- a word that says something is accepted by itself
pub expr_right : (w : ℕ) {e : ExprWord} → expr_at w ≡ Ok e → expr_check w ≡ 0
expr_right w {e} h = eqb-true (expr_check w) 0 (go (eqb (expr_check w) 0) _ h)
  where
    go : (b : Bool) (x : ExprWord) → cond b (Ok x) (Err WrongWord) ≡ Ok e → b ≡ true
    go true x k = refl
    go false x k = let z : ◌≡◌ {A = ℕ} 0 1 = cc in absurd (omega arith)

-- the check of such a word, by the operands that it takes
pub word_right : (waiting w : ℕ) {e : ExprWord} {n t : ℕ} → expr_at w ≡ Ok e → t ≡ takes w → n ≡ (9 unless (leb t waiting && leb (suc (waiting - t)) most_waiting))
    → n ≡ word_check most_waiting waiting w
word_right waiting w h g f =
    passed_first (expr_check w) (9 unless (leb (takes w) waiting && leb (suc (waiting - takes w)) most_waiting)) (expr_right w h) refl (rw (← g) f)

-- a word that is accepted finds its operands, and there is room for what it leaves
pub waits_some : (waiting w : ℕ) → word_check most_waiting waiting w ≡ 0 → (takes w ≤ waiting) × (waiting - takes w ≤ most_waiting)
waits_some waiting w h = let (a, (b, d)) = simp checks at h in (b, omega (arith, d))
