-- A file by itself: its size and its header, then its words. A reader that checks the first two and then reads the words from the second
-- on gives what the file's check gives. Assumes nothing.
use mathlib.Core.Path.{◌≡◌, refl, sym, ◌∙◌}
use mathlib.Core.Bool.{Bool, true, false, ◌&&◌}
use mathlib.Core.List.{List, [], ◌∷◌}
use Prim.Native.Nat.{ℕ, ◌/◌, ◌%◌, ◌<◌}
use native.Mathlib.Omega.{arith}
use lib.Dec.{eqb, leb, ltb}
use lib.ListN.{length, get_or, drop}
use Rattle.sets.proofs.Tests.{passed}
use Rattle.files.specs.Word.{words}
use Rattle.files.specs.Refuse.{◌then◌, ◌unless◌, size_check, header_check, file_check}
use Rattle.files.proofs.Checks.{checks, refused_first, passed_first}
use Rattle.files.proofs.Words.{words_length}

module _ (limit kind : ℕ) (site labels : Bool) (body : ℕ → List ℕ → ℕ) where
  some_words : (ws : List ℕ) (m : ℕ) → length ws ≡ m → 0 < m
      → file_check kind site labels body ws ≡ (header_check kind site labels m (get_or ws 0 0) then body (get_or ws 0 0) (drop 1 ws))
  some_words [] m e p = absurd (omega arith)
  some_words (h ∷ ws) m e p = rw (← e)

  file_same : (s : List ℕ)
      → (size_check limit s then file_check kind site labels body (words s))
      ≡ ((size_check limit s then header_check kind site labels (length s / 4) (get_or (words s) 0 0)) then body (get_or (words s) 0 0) (drop 1 (words s)))
  file_same s = by (eqb (length s % 4) 0 && ltb 0 (length s) && leb (length s / 4) limit) refl
    where
      by : (t : Bool) → (eqb (length s % 4) 0 && ltb 0 (length s) && leb (length s / 4) limit) ≡ t
          → ((2 unless t) then file_check kind site labels body (words s))
          ≡ (((2 unless t) then header_check kind site labels (length s / 4) (get_or (words s) 0 0)) then body (get_or (words s) 0 0) (drop 1 (words s)))
      by true e =
          let t = simp checks at (passed e) in
          some_words (words s) (length s / 4) (words_length s) (omega arith)
      by false e = refl

  module _ (s : List ℕ) {n : ℕ} (e : n ≡ (size_check limit s then header_check kind site labels (length s / 4) (get_or (words s) 0 0))) where
    pub file_refused : (n ≡ 0 → ⊥) → n ≡ (size_check limit s then file_check kind site labels body (words s))
    file_refused h = refused_first _ _ h e ∙ sym (file_same s)

    pub file_passed : {r : ℕ} → n ≡ 0 → r ≡ body (get_or (words s) 0 0) (drop 1 (words s))
        → r ≡ (size_check limit s then file_check kind site labels body (words s))
    file_passed h f = passed_first _ _ h e f ∙ sym (file_same s)
