-- How many operands may wait, a or b, where a is not above b: a path in which at most a wait is read the same with either; any other gives 9 where
-- it was accepted, and where it was refused its number or 9. Assumes nothing.
use mathlib.Core.Path.{◌≡◌, sym, ◌∙◌}
use mathlib.Core.Logic.{◌↔◌, ⊎_elim}
use mathlib.Core.List.{List}
use mathlib.Core.Option.{some}
use Prim.Native.Nat.{ℕ, ◌≤◌}
use lib.Dec.{T, lit≤}
use lib.ListN.{drop}
use Rattle.files.specs.Limits.{most_waiting}
use Rattle.files.specs.Path.{at_most, path_check_by, path_check}
use Rattle.expressions.specs.Labels.{expr_of}
use Rattle.expressions.specs.Waiting.{expr_by, SameBy}
use Rattle.expressions.proofs.Paths.{path_reads}
use Rattle.expressions.proofs.Fewer.{OrNine, nine, same, most, alike}

module _ (a b : ℕ) (less : a ≤ b) where
  -- with the lower maximum every path has the same number, or 9
  pub path_nine : (path : List ℕ) → OrNine (path_check_by a path) (path_check_by b path)
  path_nine path = nine a b less path

  -- the same number where at most a wait
  pub path_same : (path : List ℕ) → T (at_most a 0 (drop 1 path)) → path_check_by a path ≡ path_check_by b path
  path_same path h = same a b less path h

  path_most : (path : List ℕ) → path_check_by a path ≡ 0 → T (at_most a 0 (drop 1 path))
  path_most path e = most a b less path e

  -- accepted with the lower maximum are just the paths accepted with the higher in which at most a wait
  pub path_iff : (path : List ℕ) → (path_check_by a path ≡ 0) ↔ ((path_check_by b path ≡ 0) × T (at_most a 0 (drop 1 path)))
  path_iff path = (
    λ e. let h = most a b less path e in (sym (same a b less path h) ∙ e, h),
    λ e. same a b less path e.1 ∙ e.0,
  )

  -- the others give 9
  pub path_more : (path : List ℕ) → path_check_by b path ≡ 0 → (T (at_most a 0 (drop 1 path)) → ⊥) → path_check_by a path ≡ 9
  path_more path e n = ⊎_elim (λ s. absurd (n (most a b less path (s ∙ e)))) (λ s. s) (nine a b less path)

  pub same_by : (path : List ℕ) → T (at_most a 0 (drop 1 path)) → SameBy a b path
  same_by path h = alike a b less path h

-- Document 02: "Every path with eight or fewer is read as before", where sixteen might wait.
pub as_before : (path : List ℕ) → T (at_most most_waiting 0 (drop 1 path)) → SameBy most_waiting 16 path
as_before = alike most_waiting 16 (lit≤ tt)

-- of an accepted path the expression that contracts cite is the one that is read, now and where sixteen might wait
pub read_now : (path : List ℕ) → path_check path ≡ 0 → expr_by most_waiting path ≡ some (expr_of (drop 1 path))
read_now path ok = rw ok (path_reads path ok)

pub read_before : (path : List ℕ) → path_check path ≡ 0 → expr_by 16 path ≡ some (expr_of (drop 1 path))
read_before path ok = sym (as_before path (most most_waiting 16 (lit≤ tt) path ok)).expression ∙ read_now path ok
