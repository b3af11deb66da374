-- Laws of a loop that counts the words that pass a test, at the words that are left.
-- Assumes nothing.
use mathlib.Core.Path.{◌≡◌, sym, ◌∙◌}
use mathlib.Core.Bool.{Bool, true, false}
use mathlib.Core.List.{List, [], ◌∷◌}
use Prim.Native.Nat.{ℕ, ◌+◌, ◌≤◌, ◌^◌, ◌<◌}
use native.Mathlib.Nat.{add-zero}
use native.Mathlib.Omega.{arith}
use mir.Syntax.{w64}
use mir.Val.{Fits}
use lib.ListN.{length, drop, length-drop}
use Rattle.sets.specs.Sets.{filter}
use Rattle.sets.proofs.Filter.{filter_length}
use Rattle.files.specs.Word.{words}
use Rattle.files.proofs.Words.{words_length}

-- n are counted, and with those of the words ws that are left they are x
pub record Counting (p : ℕ → Bool) (s : List ℕ) (x n : ℕ) (ws : List ℕ) : Type 0 where
  pub same : n + length (filter p ws) ≡ x
  pub few : x ≤ length s

pub counting_first : (p : ℕ → Bool) (s : List ℕ) (k : ℕ) {ws : List ℕ} → ws ≡ drop k (words s) → Counting p s (length (filter p (drop k (words s)))) 0 ws
counting_first p s k e = record {
  same = rw e (omega arith);
  few = omega (arith, filter_length p (drop k (words s)), length-drop k (words s), words_length s);
}

module _ {p : ℕ → Bool} {s : List ℕ} {x n : ℕ} {vs : List ℕ} (f : Counting p s x n vs) where
  module _ {w : ℕ} {ws : List ℕ} {b : Bool} (t : vs ≡ w ∷ ws) (e : b ≡ p w) where
    counted : b ≡ true → n + 1 + length (filter p ws) ≡ x
    counted h = let g = rw (t, ← e, h) at f.same in omega arith

    pub counting_one : b ≡ true → Counting p s x (n + 1) ws
    counting_one h = record { same = counted h; few = f.few }

    pub counting_fits : b ≡ true → length s < 2 ^ 64 → Fits w64 (n + 1)
    counting_fits h l = let g = counted h in let m = f.few in omega arith

    pub counting_none : b ≡ false → Counting p s x n ws
    counting_none h = record { same = rw (t, ← e, h) at f.same; few = f.few }

  pub counting_last : vs ≡ [] → n ≡ x
  counting_last e = sym (add-zero n) ∙ (rw e at f.same)
