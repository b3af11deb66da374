-- The dearest path: it is accepted; from each of its states each of its positions may come next, on label 0. Assumes nothing.
use mathlib.Core.Path.{◌≡◌, refl, sym, ap, ◌∙◌}
use mathlib.Core.Logic.{⊎_elim}
use mathlib.Core.Bool.{Bool, true, false, ◌||◌}
use mathlib.Core.List.Memᴰ
use mathlib.Core.List.{[], ◌∷◌, map}
use mathlib.Core.Option.{some}
use Prim.Native.Nat.{ℕ, zero, suc, ◌+◌, ◌-◌, ◌^◌, ◌≤◌, ◌<◌}
use native.Mathlib.Omega.{arith}
use native.Mathlib.Decide.{dec_le}
use lib.Dec.{T as Passes, eqb}
use lib.ListN.{length, get_or, drop}
use Rattle.sets.specs.Sets.{Mem, filter}
use Rattle.sets.proofs.Sets.{on_cons}
use Rattle.sets.proofs.Tests.{or_left, or_right, both, eq_iff}
use Rattle.sets.proofs.Lengths.{at_mem}
use Rattle.files.specs.Field.{labels_of}
use Rattle.files.specs.Limits.{most_waiting}
use Rattle.files.specs.Path.{is_label, scan, path_check}
use Rattle.files.proofs.Checks.{then_zero, checks}
use Rattle.files.proofs.Fields.{Header, header}
use Rattle.files.proofs.Files.{header_checked}
use Rattle.expressions.specs.Expr.{Expr, letter, or, star, letters, count}
use Rattle.expressions.specs.Positions.{first, last, follow, next, step}
use Rattle.expressions.specs.Postfix.{read}
use Rattle.expressions.specs.Labels.{item, or_empty, expr_of, holds}
use Rattle.expressions.proofs.Ranges.{length_letters}
use Rattle.expressions.proofs.Paths.{path_count}
use Rattle.dearest.specs.Dearest.{full_range, dear_rest, dear_path}
use Rattle.dearest.proofs.Accepted.{Counts, path_fits}

-- It is accepted

rest_scan : (k : ℕ) → scan most_waiting 1 (dear_rest k) ≡ 0
rest_scan zero = refl
rest_scan (suc k) = rest_scan k

rest_labels : (k : ℕ) → length (filter is_label (dear_rest k)) ≡ k
rest_labels zero = refl
rest_labels (suc k) = ap suc (rest_labels k)

rest_words : (k w : ℕ) → Mem w (dear_rest k) → w < 2 ^ 32
rest_words zero = on_cons (λ w. w < 2 ^ 32) (omega arith) (λ w m. elim m [ ])
rest_words (suc k) = on_cons (λ w. w < 2 ^ 32) (omega arith) (on_cons (λ w. w < 2 ^ 32) (omega arith) (rest_words k))

module _ {D T n : ℕ} (c : Counts D T n) where
  path_header : Header 4 0 n (length (dear_path n)) (get_or (dear_path n) 0 0)
  unfolding dear_path
  path_header = header 4 0 n (length (dear_path n)) (omega arith) (omega arith) (omega arith) (omega (arith, path_fits n c.labels))

  pub path_accepted : path_check (dear_path n) ≡ 0
  unfolding dear_path
  path_accepted = then_zero (header_checked false true 4 0 n (length (dear_path n)) _ path_header tt tt)
      (then_zero (rest_scan (n - 1)) (simp checks (omega (arith, path_header.labels_is, rest_labels (n - 1)))))

  pub path_words_lem : (w : ℕ) → Mem w (dear_path n) → w < 2 ^ 32
  unfolding dear_path
  path_words_lem = on_cons (λ w. w < 2 ^ 32) path_header.word (on_cons (λ w. w < 2 ^ 32) (omega arith) (rest_words (n - 1)))

  pub path_labels : labels_of (get_or (dear_path n) 0 0) ≡ n
  path_labels = path_header.labels_is

-- Its expression

-- e or k full ranges
abbrev ors : ℕ → Expr → Expr
ors zero e = e
ors (suc k) e = ors k (or e (letter full_range))

rest_read : (k : ℕ) (e : Expr) → read (map item (dear_rest k)) (e ∷ []) ≡ some (star (ors k e))
rest_read zero e = refl
rest_read (suc k) e = rest_read k (or e (letter full_range))

path_expr : (n : ℕ) → expr_of (drop 1 (dear_path n)) ≡ star (ors (n - 1) (letter full_range))
unfolding dear_path
path_expr n = ap or_empty (rest_read (n - 1) (letter full_range))

-- every position may begin and end a word, and has the full range
record Open (e : Expr) : Type 0 where
  begins : (p : ℕ) → 1 ≤ p → p ≤ count e → Passes (first e 0 p)
  ends : (p : ℕ) → 1 ≤ p → p ≤ count e → Passes (last e 0 p)
  full : (l : ℕ) → Mem l (letters e) → l ≡ full_range

one_open : Open (letter full_range)
one_open = record {
  begins = λ p h k. (eq_iff p 1).1 (omega arith);
  ends = λ p h k. (eq_iff p 1).1 (omega arith);
  full = λ l m. Memᴰ.eq_of_singleton m;
}

or_open : (e : Expr) → Open e → Open (or e (letter full_range))
or_open e o = record {
  begins = λ p h k. one_more (first e 0 p) p (o.begins p h) k;
  ends = λ p h k. one_more (last e 0 p) p (o.ends p h) k;
  full = λ l m. ⊎_elim (o.full l) Memᴰ.eq_of_singleton (Memᴰ.append_cases (letters e) m);
}
  where
    one_more : (b : Bool) (p : ℕ) → (p ≤ count e → Passes b) → p ≤ count e + 1 → Passes (b || eqb p (0 + count e + 1))
    one_more b p f h = elim (dec_le p (count e)) [ yes l ↦ or_left b _ (f l) | no l ↦ or_right b _ ((eq_iff p (0 + count e + 1)).1 (omega arith)) ]

ors_open : (k : ℕ) (e : Expr) → Open e → Open (ors k e)
ors_open zero e o = o
ors_open (suc k) e o = ors_open k (or e (letter full_range)) (or_open e o)

star_next : (e : Expr) → Open e → (q p : ℕ) → q ≤ count e → 1 ≤ p → p ≤ count e → Passes (next (star e) q p)
star_next e o zero p h k l = o.begins p k l
star_next e o (suc q) p h k l =
    or_right (follow e 0 (suc q) p) _ (both (last e 0 (suc q)) (first e 0 p) (o.ends (suc q) (omega arith) h) (o.begins p k l))

star_steps : (e : Expr) → Open e → (q p : ℕ) → q ≤ count e → 1 ≤ p → p ≤ count e → Passes (step holds (star e) q 0 p)
star_steps e o q zero h k l = absurd (omega arith)
star_steps e o q (suc p) h k l = both (next (star e) q (suc p)) (holds (get_or (letters e) p 0) 0) (star_next e o q (suc p) h k l)
    (rw (o.full (get_or (letters e) p 0) (at_mem 0 (letters e) p (omega (arith, length_letters e)))) tt)

pub path_steps : {D T n : ℕ} (c : Counts D T n) (q p : ℕ) → q ≤ n → 1 ≤ p → p ≤ n → Passes (step holds (expr_of (drop 1 (dear_path n))) q 0 p)
path_steps {n = n} c q p h k l =
    let e = ors (n - 1) (letter full_range) in
    let m : count e ≡ n = ap count (sym (path_expr n)) ∙ path_count (dear_path n) (path_accepted c) ∙ path_labels c in
    rw (path_expr n) (star_steps e (ors_open (n - 1) (letter full_range) one_open) q p (omega arith) k (omega arith))
