-- An accepted path is read: its words after the header make one expression, with as many letters as the header says, at most 15. So `expr_of` never
-- falls back. The scan counts the operands that wait, and those are the expressions on the reader's stack. Assumes nothing.
use mathlib.Core.Path.{◌≡◌, refl, sym, ap, ◌∙◌}
use mathlib.Core.Bool.{Bool, true, false, cond}
use mathlib.Core.List.{List, [], ◌∷◌, map}
use mathlib.Core.Option.{some}
use Prim.Native.Nat.{ℕ, zero, suc, ◌+◌, ◌-◌, ◌≤◌, ◌<◌}
use native.Mathlib.Omega.{arith}
use lib.ListN.{length, get_or, drop}
use Rattle.sets.specs.Sets.{filter}
use Rattle.files.specs.Field.{labels_of}
use Rattle.files.specs.Limits.{most_waiting}
use Rattle.files.specs.Path.{is_label, operator_of, scan, path_check}
use Rattle.files.proofs.Checks.{checks}
use Rattle.expressions.specs.Expr.{Expr, empty, letter, then, or, star, count}
use Rattle.expressions.specs.Postfix.{Item, put_letter, read}
use Rattle.expressions.specs.Labels.{operator_item, item, or_empty, expr_of}

-- the letters of the expressions on a stack
abbrev letters_on : List Expr → ℕ
letters_on [] = 0
letters_on (e ∷ s) = count e + letters_on s

-- the items, n of them letters, make one expression on the stack s
abbrev Makes : List Item → ℕ → List Expr → Type 0
Makes is n s = (e : Expr) × (read is s ≡ some e) × (count e ≡ letters_on s + n)

-- the words that follow, ls the label words among them, make one expression on any stack whose height is good
module _ (is : List Item) (ls : List ℕ) (good : ℕ → Type 0) (rest : (s : List Expr) → good (length s) → Makes is (length ls) s) where
  onto : (s : List Expr) {j m : ℕ} → good j → j ≡ length s → letters_on s + length ls ≡ m → (e : Expr) × (read is s ≡ some e) × (count e ≡ m)
  onto s h i c = let r = rest s (rw i at h) in (r.0, r.1, r.2 ∙ c)

  -- with one more word w in front they make one too: `label` says whether it is a label word, else k is its operator
  one : (w : ℕ) (label : Bool) (k : ℕ) → k < 4 → (s : List Expr)
      → let t : ℕ = cond label 0 (get_or (0 ∷ 2 ∷ 2 ∷ 1 ∷ []) k 0) in
      t ≤ length s → good (suc (length s - t))
      → Makes (cond label (put_letter w) (operator_item k) ∷ is) (length (cond label (w ∷ ls) ls)) s
  one w true k l s t h = onto (letter w ∷ s) h (omega arith) (omega arith)
  one w false zero l s t h = onto (empty ∷ s) h (omega arith) (omega arith)
  one w false (suc zero) l [] t h = absurd (omega arith)
  one w false (suc zero) l (b ∷ []) t h = absurd (omega arith)
  one w false (suc zero) l (b ∷ a ∷ s) t h = onto (then a b ∷ s) h (omega arith) (omega arith)
  one w false (suc (suc zero)) l [] t h = absurd (omega arith)
  one w false (suc (suc zero)) l (b ∷ []) t h = absurd (omega arith)
  one w false (suc (suc zero)) l (b ∷ a ∷ s) t h = onto (or a b ∷ s) h (omega arith) (omega arith)
  one w false (suc (suc (suc zero))) l [] t h = absurd (omega arith)
  one w false (suc (suc (suc zero))) l (a ∷ s) t h = onto (star a ∷ s) h (omega arith) (omega arith)
  one w false (suc (suc (suc (suc k)))) l s t h = absurd (omega arith)

words_make : (ws : List ℕ) (s : List Expr) → scan most_waiting (length s) ws ≡ 0 → Makes (map item ws) (length (filter is_label ws)) s
words_make [] [] h = absurd (omega arith)
words_make [] (e ∷ []) h = (e, refl, omega arith)
words_make [] (b ∷ a ∷ s) h = absurd (omega (arith, simp checks at h))
words_make (w ∷ ws) s h =
    let k = simp checks at h in
    one (map item ws) (filter is_label ws) (λ j. scan most_waiting j ws ≡ 0) (words_make ws) w (is_label w) (operator_of w) (omega arith) s k.0.1.0 k.1

pub path_some : (path : List ℕ) → path_check path ≡ 0 → 0 < length path
path_some [] ok = absurd (omega arith)
path_some (h ∷ ws) ok = omega arith

path_makes : (path : List ℕ) → path_check path ≡ 0 → Makes (map item (drop 1 path)) (labels_of (get_or path 0 0)) []
path_makes [] ok = absurd (omega arith)
path_makes (h ∷ ws) ok =
    let k = simp checks at ok in
    rw k.1.1 at (words_make ws [] k.1.0)

pub path_reads : (path : List ℕ) → path_check path ≡ 0 → read (map item (drop 1 path)) [] ≡ some (expr_of (drop 1 path))
path_reads path ok = let r = (path_makes path ok).1 in r ∙ ap (λ o. some (or_empty o)) (sym r)

pub path_count : (path : List ℕ) → path_check path ≡ 0 → count (expr_of (drop 1 path)) ≡ labels_of (get_or path 0 0)
path_count path ok = let r = path_makes path ok in ap (λ o. count (or_empty o)) r.1 ∙ omega (arith, r.2)

pub path_small : (path : List ℕ) → path_check path ≡ 0 → count (expr_of (drop 1 path)) ≤ 15
path_small path ok = omega (arith, path_count path ok)
