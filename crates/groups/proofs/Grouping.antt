-- The groups' bytes, word by word: their check, and their words as a value. Assumes nothing.
use mathlib.Core.Path.{◌≡◌, refl, sym, ◌∙◌}
use mathlib.Core.Bool.{Bool, true, false, not, ◌&&◌}
use mathlib.Core.List.{List, [], ◌∷◌}
use Prim.Native.Nat.{ℕ, ◌+◌, ◌*◌}
use native.Mathlib.Omega.{arith}
use lib.Dec.{T, eqb, ltb, lit<}
use lib.ListN.{length, get_or, drop}
use Rattle.sets.specs.Sets.{any}
use Rattle.files.specs.Word.{words, bytes_of, put_word}
use Rattle.files.specs.declared.refusal.Refusal.{Refusal}
use Rattle.files.specs.declared.refusal.Refusal.TheVariants.{WrongGroups}
use Rattle.files.specs.Refusal.{code}
use Rattle.files.specs.Refuse.{◌unless◌}
use Rattle.files.specs.Outcome.{zeros}
use Rattle.files.specs.Limits.{group_count}
use Rattle.files.specs.Groups.{is_range, groups_check, Ranges}
use Rattle.files.proofs.Checks.{checks, code_some}
use Rattle.files.proofs.Groups.{groups_ranges}
use Rattle.files.proofs.Reading.{words_left, words_over}

-- there are eight words, and one that is no range stands among them just if one stands among those that are left
pub record Ranging (s ws : List ℕ) : Type 0 where
  pub eight : length s ≡ 4 * group_count
  pub same : any (λ w. not (is_range w)) ws ≡ any (λ w. not (is_range w)) (words s)

module _ {s vs : List ℕ} (f : Ranging s vs) where
  pub ranging_last : vs ≡ [] → 0 ≡ groups_check s
  ranging_last e = let g = f.same in let h = rw e at g in rw (f.eight, ← h)

-- eight words, one by one
pub eight_words : (s : List ℕ) {a b c d i j k l : ℕ} → groups_check s ≡ 0
    → a ≡ get_or (words s) 0 0 → b ≡ get_or (words s) 1 0 → c ≡ get_or (words s) 2 0 → d ≡ get_or (words s) 3 0
    → i ≡ get_or (words s) 4 0 → j ≡ get_or (words s) 5 0 → k ≡ get_or (words s) 6 0 → l ≡ get_or (words s) 7 0
    → a ∷ b ∷ c ∷ d ∷ i ∷ j ∷ k ∷ l ∷ [] ≡ words s
eight_words s h p q r t u v w x =
    more 0 tt p (more 1 tt q (more 2 tt r (more 3 tt t (more 4 tt u (more 5 tt v (more 6 tt w (more 7 tt x (sym (words_over s 8 (omega (arith, size)))))))))))
  where
    size : length s ≡ 32
    size = let n = simp checks at h in n.0

    more : (k : ℕ) {w : ℕ} {ws : List ℕ} → T (ltb k 8) → w ≡ get_or (words s) k 0 → ws ≡ drop (k + 1) (words s) → w ∷ ws ≡ drop k (words s)
    more k l e f = rw f (sym (words_left s k (omega (arith, size, lit< {m = k} {n = 8} l)) e))

-- the value that was read, v, has a range word for every group
pub value_ranges : (s : List ℕ) {v : List ℕ} → v ≡ words s → groups_check s ≡ 0 → Ranges v
value_ranges s e h = rw e (groups_ranges s h)

-- eight words put into 32 bytes, one by one
pub eight_put : (a b c d i j k l : ℕ) {b₁ b₂ b₃ b₄ b₅ b₆ b₇ b₈ : List ℕ} → b₁ ≡ put_word (zeros 32) 0 a → b₂ ≡ put_word b₁ 1 b → b₃ ≡ put_word b₂ 2 c
    → b₄ ≡ put_word b₃ 3 d → b₅ ≡ put_word b₄ 4 i → b₆ ≡ put_word b₅ 5 j → b₇ ≡ put_word b₆ 6 k → b₈ ≡ put_word b₇ 7 l
    → b₈ ≡ bytes_of (a ∷ b ∷ c ∷ d ∷ i ∷ j ∷ k ∷ l ∷ [])
eight_put a b c d i j k l e f g h p q r s = rw (s, r, q, p, h, g, f, e)
