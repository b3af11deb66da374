-- What each step of the construction does is what `compute` does. Assumes nothing.
use mathlib.Core.Path.{◌≡◌, refl, sym, ap, subst, ◌∙◌, fun_ext}
use mathlib.Core.Bool.{false}
use mathlib.Core.List.{List, [], ◌∷◌, append-nil}
use Prim.Native.Nat.{ℕ, zero, suc, ◌+◌, ◌-◌, ◌≤◌, ◌<◌}
use native.Mathlib.Nat.{not-suc-le-zero}
use native.Mathlib.Numerals.{add-one}
use native.Mathlib.Omega.{arith}
use lib.ListN.{length, get_or, set, replicate, length-set}
use lib.Seq.{get_or-set_same, get_or-set_other}
use Rattle.sets.specs.States.{has_state}
use Rattle.sets.proofs.StateSets.{has_empty}
use Rattle.files.specs.Limits.{most_waiting}
use Rattle.files.specs.Groups.{load, Ranges}
use Rattle.std.specs.Prelude.{Result, Ok}
use Rattle.files.specs.declared.refusal.Refusal.{Refusal}
use Rattle.files.specs.declared.expr.Operator.{Operator}
use Rattle.files.specs.Path.{operator_of}
use Rattle.files.specs.Expr.{operator_number, expr_at}
use Rattle.files.specs.declared.expr.ExprWord.{ExprWord}
use Rattle.files.specs.declared.expr.ExprWord.TheVariants as variants
use Rattle.files.specs.declared.expr.Label.{Label}
use Rattle.files.proofs.Exprs.{label_told, operator_told, operator_back}
use Rattle.files.proofs.Groups.{load_label}
use Rattle.labels.specs.declared.interval.LabelSet.{LabelSet}
use Rattle.paths.specs.declared.letters.Letters.{Letters}
use Rattle.paths.specs.declared.operand.Operand.{Operand}
use Rattle.paths.specs.declared.builder.Builder.{Builder}
use Rattle.expressions.specs.Postfix.{Item, put_empty, put_letter, make_then, make_or, make_star}
use Rattle.expressions.specs.Labels.{operator_item, item}
use Rattle.expressions.specs.Fragments.{empty_fragment, letter_fragment, then_fragment, or_fragment, star_fragment, link, compute}
use Rattle.labels.specs.Interval.{label_set, HeldBy}
use Rattle.expressions.proofs.Loading.{as_operator, unmoved}
use Rattle.labels.proofs.Intervals.{resolved}
use Rattle.paths.specs.Operand.{fragment_in, table_in}
use Rattle.paths.specs.Letters.{AddedLabel, Labelled}
use Rattle.paths.specs.Builder.{stack_in, fragments_in, follow_in, Starts, Replaced, operands_of, letters_of, Applicable, Does}
use Rattle.paths.proofs.Lettering.{labelled_more}

abbrev nothing : Operand
nothing = record { null = false; begins = 0; ends = 0 }

-- ---- the stack

-- a store above the operands that wait
stack_above : (os : List Operand) (k : ℕ) (o : Operand) (h : ℕ) → h ≤ k → stack_in (set os k o) h ≡ stack_in os h
stack_above os k o zero l = refl
stack_above os k o (suc h) l = rw (get_or-set_other os k h o nothing (λ e. omega arith), stack_above os k o h (omega arith))

pub place_is : (b : Builder) (k : ℕ) (o : Operand) → k < most_waiting → length b.operands ≡ most_waiting
    → Replaced b k o (record { operands = set b.operands k o; waiting = k + 1; rows = b.rows; letters = b.letters })
place_is b k o l e =
    record {
      fragments = rw (add-one k, get_or-set_same b.operands k o nothing (omega arith), stack_above b.operands k o k (omega arith));
      waiting = refl;
      rows = refl;
      letters = refl;
      sized = length-set b.operands k o;
    }

top : (os : List Operand) (h : ℕ) → 1 ≤ h → stack_in os h ≡ fragment_in (get_or os (h - 1) nothing) ∷ stack_in os (h - 1)
top os zero l = absurd (not-suc-le-zero l)
top os (suc h) l =
    let e : suc h - 1 ≡ h = omega arith in
    rw e

top_two : (os : List Operand) (h : ℕ) → 2 ≤ h
    → stack_in os h ≡ fragment_in (get_or os (h - 1) nothing) ∷ fragment_in (get_or os (h - 2) nothing) ∷ stack_in os (h - 2)
top_two os zero l = absurd (not-suc-le-zero l)
top_two os (suc zero) l = absurd (omega arith)
top_two os (suc (suc h)) l =
    let e : suc (suc h) - 1 ≡ suc h = omega arith in
    let f : suc (suc h) - 2 ≡ h = omega arith in
    rw (e, f)

-- ---- the items

rows_none : (n q p : ℕ) → has_state (get_or (replicate n 0) q 0) p ≡ false
rows_none zero q p = has_empty p
rows_none (suc n) zero p = has_empty p
rows_none (suc n) (suc q) p = rows_none n q p

pub start_is : (os : List Operand) {ls : Letters} → length os ≡ most_waiting → Labelled ls [] → Starts (record { operands = os; waiting = 0; rows = replicate 16 0; letters = ls })
start_is os e l = record { sized = e; waiting = refl; rows = fun_ext λ q. fun_ext λ p. rows_none 16 q p; letters = l }

-- an item without letters, by what it makes of the fragments and the table
done : (it : Item) {b r : Builder} {k : ℕ} {o : Operand} (t : List ℕ) → letters_of it ≡ [] → k ≡ b.waiting - operands_of it → Replaced b k o r
    → ((is : List Item) (ws : List ℕ) → compute (it ∷ is) ws (fragments_in b) (follow_in b) ≡ compute is ws (fragment_in o ∷ stack_in b.operands k) (table_in t))
    → Does it b (record { operands = r.operands; waiting = r.waiting; rows = t; letters = r.letters })
done it t none e p c =
    record {
      computes = λ is ws n. rw (none, append-nil, p.fragments) (c is ws);
      letters = λ ws l. rw (none, append-nil, p.letters) l;
      waiting = omega (arith, p.waiting);
      sized = p.sized;
    }

pub nothing_does : {b r : Builder} {o : Operand} → Replaced b b.waiting o r → fragment_in o ≡ empty_fragment → Does put_empty b r
nothing_does {b} {r} p e = done put_empty r.rows refl (omega arith) p (λ is ws. rw (p.rows, e))

pub or_does : {b r : Builder} {o x y : Operand} → Replaced b (b.waiting - 2) o r → fragment_in o ≡ or_fragment (fragment_in x) (fragment_in y)
    → x ≡ get_or b.operands (b.waiting - 2) nothing → y ≡ get_or b.operands (b.waiting - 1) nothing → Applicable make_or b → Does make_or b r
or_does {b} {r} p e f g h =
    done make_or r.rows refl refl p (λ is ws. rw (p.rows, e, f, g, top_two b.operands b.waiting h.enough))

pub then_does : {b r : Builder} {o x y : Operand} (t : List ℕ) → Replaced b (b.waiting - 2) o r → fragment_in o ≡ then_fragment (fragment_in x) (fragment_in y)
    → table_in t ≡ link (table_in b.rows) (fragment_in x) (fragment_in y)
    → x ≡ get_or b.operands (b.waiting - 2) nothing → y ≡ get_or b.operands (b.waiting - 1) nothing → Applicable make_then b
    → Does make_then b (record { operands = r.operands; waiting = r.waiting; rows = t; letters = r.letters })
then_does {b} t p e k f g h =
    done make_then t refl refl p (λ is ws. rw (k, e, f, g, top_two b.operands b.waiting h.enough))

pub star_does : {b r : Builder} {o x : Operand} (t : List ℕ) → Replaced b (b.waiting - 1) o r → fragment_in o ≡ star_fragment (fragment_in x)
    → table_in t ≡ link (table_in b.rows) (fragment_in x) (fragment_in x) → x ≡ get_or b.operands (b.waiting - 1) nothing → Applicable make_star b
    → Does make_star b (record { operands = r.operands; waiting = r.waiting; rows = t; letters = r.letters })
star_does {b} t p e k f h = done make_star t refl refl p (λ is ws. rw (k, e, f, top b.operands b.waiting h.enough))

pub label_does : {b r : Builder} {ls : Letters} {s : LabelSet} {o : Operand} → AddedLabel b.letters s ls
    → Replaced b b.waiting o r → fragment_in o ≡ letter_fragment ls.n → b.letters.n + 1 ≤ 15
    → (w : ℕ) → HeldBy w s → Does (put_letter w) b (record { operands = r.operands; waiting = r.waiting; rows = r.rows; letters = ls })
label_does {b} {r} {ls} a p e h w g =
    record {
      computes = λ is ws n. rw (p.fragments, p.rows, e, a.count, n);
      letters = λ ws k. labelled_more w a k g (omega arith);
      waiting = omega (arith, p.waiting);
      sized = p.sized;
    }

-- ---- which item a word is

pub applicable_as : {it it' : Item} {b : Builder} → it' ≡ it → Applicable it b → Applicable it' b
applicable_as e h = rw e h

pub does_as : {it it' : Item} {b r : Builder} → it ≡ it' → Does it b r → Does it' b r
does_as {b = b} {r = r} e h = subst (λ i. Does i b r) e h

module _ (groups : List ℕ) (g : Ranges groups) (w : ℕ) {r : Result ExprWord Refusal} (h : r ≡ expr_at w) where
  pub word_label : {l : Label} → r ≡ Ok (variants.Label l) → put_letter (load groups w) ≡ item (load groups w)
  word_label q = rw (load_label groups g w, (label_told w h q).1)

  pub word_held : {l : Label} {s : LabelSet} → r ≡ Ok (variants.Label l) → s ≡ label_set groups l → HeldBy (load groups w) s
  word_held q = let (c, t, k) = label_told w h q in resolved groups g w t (rw t at c) k

  pub word_operator : {o : Operator} → r ≡ Ok (variants.Operator o) → operator_item (operator_number o) ≡ item (load groups w)
  word_operator q =
      let (c, t, k) = operator_told w h q in
      ap operator_item (ap operator_number k ∙ operator_back (operator_of w) (omega arith)) ∙ sym (as_operator w t) ∙ ap item (sym (unmoved groups w t))

-- every label word asks the same
pub applicable_label : {b : Builder} (w : ℕ) → Applicable (put_letter w) b → Applicable (put_letter 0) b
applicable_label w h = record { enough = h.enough; most = h.most; sized = h.sized; room = h.room; few = h.few }
