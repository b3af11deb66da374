-- Loops that write the words of one number after another: of doors, of targets, of labels, of nodes. Assumes nothing.
use mathlib.Core.Path.{◌≡◌}
use mathlib.Core.List.{List, [], ◌∷◌, flatten}
use Prim.Native.Nat.{ℕ, suc, ◌+◌, ◌-◌, ◌≤◌, ◌<◌}
use native.Mathlib.Omega.{arith}
use lib.ListN.{length}
use Rattle.sets.proofs.Spans.{each, each_next}
use Rattle.output.specs.Writer.{Writes}
use Rattle.output.proofs.Writing.{Adding, adding_none, adding_more}

-- a loop over the numbers from k to e: the words of those before i are written
pub record Spanning (limit : ℕ) (d : List ℕ) (start : ℕ) (f : ℕ → List ℕ) (k e : ℕ) (out : List ℕ) (count i : ℕ) : Type 0 where
  pub adding : Adding limit d start out count (each f k (i - k))
  pub from : k ≤ i
  pub within : i ≤ e

module _ {limit : ℕ} {d : List ℕ} {start : ℕ} {f : ℕ → List ℕ} {k e : ℕ} where
  pub spanning_first : k ≤ e → Spanning limit d start f k e d start k
  unfolding flatten
  spanning_first h =
      let z : k - k ≡ 0 = omega arith in
      record { adding = rw z (adding_none limit d start); from = omega arith; within = h }

  pub spanning_more : {out out' : List ℕ} {count r i : ℕ} → Spanning limit d start f k e out count i → i < e → length out' ≡ length out
      → Writes limit (length out) out count out' r (f i) → Spanning limit d start f k e out' r (i + 1)
  spanning_more {i = i} s h same w =
      let n : i + 1 - k ≡ suc (i - k) = omega (arith, s.from) in
      let a : k + (i - k) ≡ i = omega (arith, s.from) in
      record {
        adding = rw (n, ← each_next f k (i - k), a) (adding_more (f i) s.adding same w);
        from = omega (arith, s.from);
        within = omega arith;
      }

  pub spanning_last : {out : List ℕ} {count i : ℕ} → Spanning limit d start f k e out count i → e ≤ i
      → Writes limit (length d) d start out count (each f k (e - k))
  spanning_last {i = i} s h = let q : i ≡ e = omega (arith, s.within) in rw q at s.adding.written

-- one word each, v at i
pub spanning_word : {limit : ℕ} {d : List ℕ} {start : ℕ} (g : ℕ → ℕ) {k e : ℕ} {out out' : List ℕ} {count r i v : ℕ} → Spanning limit d start (λ x. g x ∷ []) k e out count i
    → i < e → v ≡ g i → length out' ≡ length out → Writes limit (length out) out count out' r (v ∷ []) → Spanning limit d start (λ x. g x ∷ []) k e out' r (i + 1)
spanning_word g s h q same w = spanning_more s h same (rw q at w)
