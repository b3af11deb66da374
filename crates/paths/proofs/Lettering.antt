-- The positions that read a label, gathered lowest first; and one more position. Assumes nothing.
use mathlib.Core.Path.{◌≡◌, refl, sym, ◌∙◌}
use mathlib.Core.Bool.{Bool, true, false, cond, not, ◌&&◌, ◌||◌, and-true, and-false, or-false}
use mathlib.Core.Logic.{inl, inr, ⊎_elim}
use mathlib.Core.List.{List, [], ◌∷◌, ◌++◌}
use Prim.Native.Nat.{ℕ, zero, suc, ◌+◌, ◌≤◌, ◌<◌}
use native.Mathlib.Omega.{arith}
use lib.Bits.{bit_or, bit_and, bit_xor}
use lib.Dec.{T, eqb, leb, leb-suc-zero, le→leb, eqb→eq}
use borrow.Author.Tests.{eq-eqb, ne_eqb}
use lib.ListN.{length, get_or, set, replicate, length-set, length-append, get_or-append}
use lib.Seq.{get_or-set_same, get_or-set_other, get_or-append_seam}
use Rattle.sets.specs.States.{has_state, Lowest, Rest}
use Rattle.sets.proofs.Cases.{by_eq, lt_or_le}
use Rattle.sets.proofs.Tests.{same_test, or_iff, and_iff, le_iff, eq_iff, or_left, or_right, both}
use Rattle.sets.proofs.StateSets.{has_and, has_xor, has_empty}
use Rattle.paths.specs.declared.letters.Letters.{Letters}
use Rattle.labels.specs.declared.interval.Interval.{Interval}
use Rattle.labels.specs.declared.interval.LabelSet.{LabelSet}
use Rattle.expressions.specs.Labels.{between}
use Rattle.labels.specs.Interval.{within, HeldBy}
use Rattle.paths.specs.Letters.{interval_at, labels_at, reads, AddedLabel, Labelled}
use Rattle.paths.proofs.Operands.{has_only, has_more}

-- what is gathered, turned round at the positions that are left and whose interval holds the label
abbrev gathered : Letters → ℕ → ℕ → ℕ → ℕ → Bool
gathered l label s r p = cond (has_state s p && within (interval_at l p) label) (not (has_state r p)) (has_state r p)

pub record Masking (l : Letters) (label s r : ℕ) : Type 0 where
  pub same : (p : ℕ) → gathered l label s r p ≡ reads l label p

pub masking_first : (l : Letters) (label : ℕ) → Masking l label l.positions (bit_and l.outside l.positions)
masking_first l label = record { same = λ p. rw (has_and l.outside l.positions p) (turned (has_state l.positions p) (within (interval_at l p) label) (has_state l.outside p)) }
  where
    turned : (there held outside : Bool) → cond (there && held) (not (outside && there)) (outside && there) ≡ (there && cond outside (not held) held)
    turned true true true = refl
    turned true true false = refl
    turned true false true = refl
    turned true false false = refl
    turned false held true = refl
    turned false held false = refl

pub masking_more : {l : Letters} {label s r q s' : ℕ} {b : Bool} (u : ℕ) {o : ℕ} → Masking l label s r → Lowest s q → Rest s s'
    → b ≡ within (interval_at l q) label → ((p : ℕ) → has_state u p ≡ (has_state 0 p || eqb p q)) → o ≡ cond b u 0
    → Masking l label s' (bit_xor r o)
masking_more {l} {label} {s} {r} {q} {s'} {b} u {o} k m t e f g = record { same = λ p. turn p ∙ k.same p }
  where
    W : ℕ → Bool
    W p = within (interval_at l p) label

    one : (p : ℕ) → has_state (bit_xor r o) p ≡ cond (b && eqb p q) (not (has_state r p)) (has_state r p)
    one p = rw (has_xor r o p, g, has_only b u p, f p, has_empty)

    turn : (p : ℕ) → gathered l label s' (bit_xor r o) p ≡ gathered l label s r p
    turn p = rw (one p, t.has p, ← m.is) (by_eq q (λ j y. after j y ≡ gathered l label s r j) now other p)
      where
        -- at position j, where y says whether it is the lowest
        after : ℕ → Bool → Bool
        after j y =
            let z : Bool = cond (b && y) (not (has_state r j)) (has_state r j) in
            cond ((has_state s j && not y) && W j) (not z) z

        now : after q true ≡ gathered l label s r q
        now = rw (m.member, and-true, e)

        other : (j : ℕ) → (j ≡ q → ⊥) → after j false ≡ gathered l label s r j
        other j n = rw (and-false, and-true)

pub masking_last : {l : Letters} {label s r : ℕ} → Masking l label s r → s ≡ 0 → (p : ℕ) → has_state r p ≡ reads l label p
masking_last {l} {label} {s} {r} k e p = none ∙ k.same p
  where
    none : has_state r p ≡ gathered l label s r p
    none = rw (e, has_empty p)

-- ---- no position, and one more

pub labelled_none : Labelled (record { intervals = replicate 16 (record { low = 0; high = 0 }); positions = 0; outside = 0; n = 0 }) []
labelled_none = record { sixteen = refl; count = refl; has = λ p. has_empty p ∙ sym (nowhere p); labels = λ p h. absurd (omega arith); sides = λ p h. has_empty p }
  where
    nowhere : (p : ℕ) → between 1 0 p ≡ false
    nowhere zero = refl
    nowhere (suc p) = rw (leb-suc-zero p, and-false)

between_more : (n p : ℕ) → (between 1 n p || eqb p (n + 1)) ≡ between 1 (n + 1) p
between_more n p = same_test up down
  where
    up : T (between 1 n p || eqb p (n + 1)) → T (between 1 (n + 1) p)
    up t = elim (simp or_iff at t) [
      | inl x ↦ let y = simp (and_iff, le_iff) at x in both (leb 1 p) (leb p (n + 1)) (le→leb 1 p (omega arith)) (le→leb p (n + 1) (omega arith))
      | inr x ↦ let y = eqb→eq p (n + 1) x in both (leb 1 p) (leb p (n + 1)) (le→leb 1 p (omega arith)) (le→leb p (n + 1) (omega arith))
    ]

    down : T (between 1 (n + 1) p) → T (between 1 n p || eqb p (n + 1))
    down t =
        let y = simp (and_iff, le_iff) at t in
        ⊎_elim (λ l. or_left (between 1 n p) (eqb p (n + 1)) (both (leb 1 p) (leb p n) (le→leb 1 p y.0) (le→leb p n (omega arith))))
        (λ l. or_right (between 1 n p) (eqb p (n + 1)) ((eq_iff p (n + 1)).1 (omega arith)))
        (lt_or_le p (n + 1))

-- for the proof of `add`: the set with position p, where its labels are those outside
pub sides_more : (b : Bool) (o t p : ℕ) {u : ℕ} → u ≡ cond b t 0 → ((q : ℕ) → has_state t q ≡ (has_state 0 q || eqb q p))
    → (q : ℕ) → has_state (bit_or o u) q ≡ (has_state o q || b && eqb q p)
sides_more b o t p e f q = has_more b o t e q ∙ rw (f q, has_empty q)

pub labelled_more : {l r : Letters} {s : LabelSet} {ws : List ℕ} (w : ℕ) → AddedLabel l s r → Labelled l ws → HeldBy w s → l.n < 15 → Labelled r (ws ++ w ∷ [])
labelled_more {l} {r} {s} {ws} w a k e h =
    record {
      sixteen = rw (a.intervals, length-set) k.sixteen;
      count = omega (arith, a.count, k.count, one);
      has = λ p. a.has p ∙ rw (k.has p, k.count, one) (between_more (length ws) p);
      labels = each;
      sides = λ p m. a.sides p ∙ rw (k.sides p (omega (arith, one)), k.count, ne_eqb p (length ws + 1) (λ q. omega (arith, one)), and-false);
    }
  where
    one : length (ws ++ w ∷ []) ≡ length ws + 1
    one = simp length-append

    none : Interval
    none = record { low = 0; high = 0 }

    each : (p : ℕ) → p < length (ws ++ w ∷ []) → HeldBy (get_or (ws ++ w ∷ []) p 0) (labels_at r (p + 1))
    each p m = rw (a.intervals, a.sides (p + 1), k.count) (⊎_elim old new (lt_or_le p (length ws)))
      where
        -- the labels of position p + 1, where `last` says whether it is the new one
        made : Bool → LabelSet
        made last = record { interval = get_or (set l.intervals (length ws + 1) s.interval) (p + 1) none; outside = has_state l.outside (p + 1) || s.outside && last }

        old : p < length ws → HeldBy (get_or (ws ++ w ∷ []) p 0) (made (eqb (p + 1) (length ws + 1)))
        old b =
            rw (get_or-set_other l.intervals (length ws + 1) (p + 1) s.interval none (λ x. omega arith), ne_eqb (p + 1) (length ws + 1) (λ x. omega arith), and-false, or-false, get_or-append ws (w ∷ []) 0 p b)
            (k.labels p b)

        new : length ws ≤ p → HeldBy (get_or (ws ++ w ∷ []) p 0) (made (eqb (p + 1) (length ws + 1)))
        new b =
            let q : p ≡ length ws = omega (arith, m, one) in
            rw (q, get_or-set_same l.intervals (length ws + 1) s.interval none (omega (arith, k.sixteen, k.count)), eq-eqb (length ws + 1) (length ws + 1) refl, and-true, k.sides (length ws + 1) (omega arith), get_or-append_seam ws w [] 0) e
