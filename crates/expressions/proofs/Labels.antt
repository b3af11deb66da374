-- What a label word of sort 2 holds (document 02, request 1): exactly the labels that the range with its ends does not. Assumes nothing.
use mathlib.Core.Path.{◌≡◌, sym, ◌∙◌}
use mathlib.Core.Bool.{not, ◌||◌, and-false}
use mathlib.Core.Logic.{◌↔◌, ◌⊎◌, inl, inr, ⊎_elim}
use Prim.Native.Nat.{ℕ, ◌+◌, ◌-◌, ◌^◌, ◌≤◌, ◌<◌}
use native.Mathlib.Omega.{arith}
use lib.Dec.{T}
use Rattle.sets.proofs.Cases.{lt_or_le}
use Rattle.sets.proofs.Tests.{same_test, or_iff, and_iff, not_iff, le_iff}
use Rattle.files.specs.Path.{sort_of, high_of, low_of, range_word, outside_word}
use Rattle.files.proofs.Fields.{range, outside}
use Rattle.expressions.specs.Labels.{in_range, holds}

pub range_holds : (l a : ℕ) → sort_of l ≡ 0 → holds l a ≡ in_range l a
range_holds l a e = rw (e, and-false)

outside_holds : (l a : ℕ) → sort_of l ≡ 2 → holds l a ≡ not (in_range l a)
outside_holds l a e = rw (e, and-false)

-- a word of sort 2 beside one of sort 0 with the same ends
pub complement : (l r : ℕ) → sort_of l ≡ 2 → sort_of r ≡ 0 → low_of l ≡ low_of r → high_of l ≡ high_of r → (a : ℕ) → holds l a ≡ not (holds r a)
complement l r e f low high a = rw (outside_holds l a e, range_holds r a f, low, high)

-- the same by the ends, in numbers
module _ (low high a : ℕ) (l : low < 2 ^ 12) (h : high < 2 ^ 12) where
  pub range_iff : T (holds (range_word low high) a) ↔ ((low ≤ a) × (a ≤ high))
  range_iff = let r = range low high l h in rw (range_holds (range_word low high) a r.sort_is, r.low_is, r.high_is) (λ t. simp (and_iff, le_iff) at t, λ t. simp (and_iff, le_iff) t)

  pub outside_range : holds (outside_word low high) a ≡ not (holds (range_word low high) a)
  outside_range =
      let r = range low high l h in
      let o = outside low high l h in
      complement (outside_word low high) (range_word low high) o.sort_is r.sort_is (o.low_is ∙ sym r.low_is) (o.high_is ∙ sym r.high_is) a

  pub outside_iff : T (holds (outside_word low high) a) ↔ ((a < low) ⊎ (high < a))
  outside_iff = rw outside_range (out, into)
    where
      out : T (not (holds (range_word low high) a)) → (a < low) ⊎ (high < a)
      out t = ⊎_elim inl (λ u. ⊎_elim inr (λ v. absurd ((not_iff (holds (range_word low high) a)).0 t (range_iff.1 (u, v)))) (lt_or_le high a)) (lt_or_le a low)

      into : (a < low) ⊎ (high < a) → T (not (holds (range_word low high) a))
      into s = (not_iff (holds (range_word low high) a)).1 (λ t. let u = range_iff.0 t in elim s [ inl x ↦ omega arith | inr x ↦ omega arith ])

-- outside of all labels is none
pub outside_all : (a : ℕ) → a < 2 ^ 12 → T (holds (outside_word 0 4095) a) → ⊥
outside_all a h t = elim ((outside_iff 0 4095 a (omega arith) (omega arith)).0 t) [ inl x ↦ omega arith | inr x ↦ omega arith ]

-- one word for the two ranges that were needed for it
pub two_ranges : (low high a : ℕ) → 0 < low → low ≤ high → high < 4095 → a < 2 ^ 12
    → holds (outside_word low high) a ≡ (holds (range_word 0 (low - 1)) a || holds (range_word (high + 1) 4095) a)
two_ranges low high a p q r s = same_test down up
  where
    o : T (holds (outside_word low high) a) ↔ ((a < low) ⊎ (high < a))
    o = outside_iff low high a (omega arith) (omega arith)

    below : T (holds (range_word 0 (low - 1)) a) ↔ ((0 ≤ a) × (a ≤ low - 1))
    below = range_iff 0 (low - 1) a (omega arith) (omega arith)

    above : T (holds (range_word (high + 1) 4095) a) ↔ ((high + 1 ≤ a) × (a ≤ 4095))
    above = range_iff (high + 1) 4095 a (omega arith) (omega arith)

    either : T (holds (range_word 0 (low - 1)) a || holds (range_word (high + 1) 4095) a) ↔ (T (holds (range_word 0 (low - 1)) a) ⊎ T (holds (range_word (high + 1) 4095) a))
    either = or_iff (holds (range_word 0 (low - 1)) a) (holds (range_word (high + 1) 4095) a)

    down : T (holds (outside_word low high) a) → T (holds (range_word 0 (low - 1)) a || holds (range_word (high + 1) 4095) a)
    down t = either.1 (elim (o.0 t) [ inl x ↦ inl (below.1 (omega arith)) | inr x ↦ inr (above.1 (omega arith)) ])

    up : T (holds (range_word 0 (low - 1)) a || holds (range_word (high + 1) 4095) a) → T (holds (outside_word low high) a)
    up t = o.1 (elim (either.0 t) [ inl x ↦ inl (let u = below.0 x in omega arith) | inr x ↦ inr (let u = above.0 x in omega arith) ])
