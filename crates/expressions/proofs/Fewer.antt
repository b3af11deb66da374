-- How many operands may wait, a or b, where a is not above b: what a path's check says with either, word by word. `Waiting` has the theorems.
-- Assumes nothing.
use mathlib.Core.Path.{◌≡◌, refl, ap}
use mathlib.Core.Logic.{◌⊎◌, inl, inr}
use mathlib.Core.Bool.{Bool, true, false, ◌&&◌}
use mathlib.Core.List.{List, [], ◌∷◌}
use mathlib.Core.Option.{map}
use Prim.Native.Nat.{ℕ, zero, suc, ◌≤◌}
use native.Mathlib.Omega.{arith}
use native.Mathlib.Decide.{dec_le}
use lib.Dec.{T, leb}
use lib.ListN.{length, drop}
use borrow.Author.Tests.{le-leb, lt-leb}
use Rattle.sets.proofs.Tests.{and_iff, le_iff}
use Rattle.files.specs.Refuse.{◌then◌, ◌unless◌, header_check}
use Rattle.files.specs.Path.{takes, waits, at_most, word_check, scan, path_check_by}
use Rattle.files.specs.Expr.{expr_check}
use Rattle.files.proofs.Checks.{checks}
use Rattle.expressions.specs.Waiting.{expr_by, automaton_of, SameBy}

-- the number x is y, or 9 in its place
abbrev pub OrNine : ℕ → ℕ → Type 0
OrNine x y = (x ≡ y) ⊎ (x ≡ 9)

then_nine : (x y : ℕ) {x' y' : ℕ} → OrNine x x' → OrNine y y' → OrNine (x then y) (x' then y')
then_nine x y (inr e) k = inr (rw e)
then_nine zero y (inl e) k = rw (← e) k
then_nine (suc x) y (inl e) k = inl (rw (← e))

module _ (a b : ℕ) (less : a ≤ b) where
  fits_nine : (c : Bool) (k : ℕ) → OrNine (9 unless (c && leb k a)) (9 unless (c && leb k b))
  fits_nine false k = inl refl
  fits_nine true k =
      elim (dec_le k a) [
        | yes l ↦ inl (rw (le-leb k a l, le-leb k b (omega arith)))
        | no l ↦ inr (rw (lt-leb k a (omega arith)))
      ]

  word_nine : (waiting w : ℕ) → OrNine (word_check a waiting w) (word_check b waiting w)
  word_nine waiting w = then_nine (expr_check w) _ (inl refl) (fits_nine (leb (takes w) waiting) (waits waiting w))

  scan_nine : (waiting : ℕ) (ws : List ℕ) → OrNine (scan a waiting ws) (scan b waiting ws)
  scan_nine waiting [] = inl refl
  scan_nine waiting (w ∷ ws) = then_nine (word_check a waiting w) _ (word_nine waiting w) (scan_nine (waits waiting w) ws)

  -- with the lower maximum every path has the same number, or 9
  pub nine : (path : List ℕ) → OrNine (path_check_by a path) (path_check_by b path)
  nine [] = inl refl
  nine (h ∷ ws) = then_nine (header_check 4 false true (suc (length ws)) h) _ (inl refl) (then_nine (scan a 0 ws) _ (scan_nine 0 ws) (inl refl))

  scan_same : (waiting : ℕ) (ws : List ℕ) → T (at_most a waiting ws) → scan a waiting ws ≡ scan b waiting ws
  scan_same waiting [] h = refl
  scan_same waiting (w ∷ ws) h =
      let (l, r) = simp (and_iff, le_iff) at h in
      rw (le-leb (waits waiting w) a l, le-leb (waits waiting w) b (omega arith), scan_same (waits waiting w) ws r)

  -- the same number where at most a wait
  pub same : (path : List ℕ) → T (at_most a 0 (drop 1 path)) → path_check_by a path ≡ path_check_by b path
  same [] h = refl
  same (k ∷ ws) h = rw (scan_same 0 ws h)

  scan_most : (waiting : ℕ) (ws : List ℕ) → scan a waiting ws ≡ 0 → T (at_most a waiting ws)
  scan_most waiting [] h = tt
  scan_most waiting (w ∷ ws) h = let k = simp checks at h in simp (and_iff, le_iff) (k.0.1.1, scan_most (waits waiting w) ws k.1)

  pub most : (path : List ℕ) → path_check_by a path ≡ 0 → T (at_most a 0 (drop 1 path))
  most [] e = absurd (omega arith)
  most (h ∷ ws) e = scan_most 0 ws (simp checks at e).1.0

  pub alike : (path : List ℕ) → T (at_most a 0 (drop 1 path)) → SameBy a b path
  alike path h =
      let read : expr_by a path ≡ expr_by b path = rw (same path h) in
      record { check = same path h; expression = read; automaton = ap (map automaton_of) read }
