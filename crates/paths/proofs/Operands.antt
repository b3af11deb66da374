-- The operations on sets of states are those of the fragments and of the table that the sets say. Assumes nothing.
use mathlib.Core.Path.{◌≡◌, refl, ◌∙◌, fun_ext}
use mathlib.Core.Bool.{Bool, true, false, cond, not, ◌&&◌, ◌||◌, and-true, or-false}
use mathlib.Core.List.{List}
use Prim.Native.Nat.{ℕ}
use native.Mathlib.Omega.{arith}
use lib.Bits.{bit_or}
use lib.Dec.{eqb}
use lib.ListN.{length, get_or, set, length-set}
use lib.Seq.{get_or-set_same, get_or-set_other}
use Rattle.sets.specs.States.{has_state, Lowest, Rest}
use Rattle.sets.proofs.Cases.{by_eq}
use Rattle.sets.proofs.StateSets.{has_or, has_empty}
use Rattle.expressions.specs.Fragments.{Fragment, empty_fragment, letter_fragment, then_fragment, or_fragment}
use Rattle.paths.specs.Operand.{fragment_in, table_in}
use Rattle.paths.specs.declared.operand.Operand.{Operand}

fragment_ext : {n m : Bool} {f g l k : ℕ → Bool} → n ≡ m → ((p : ℕ) → f p ≡ g p) → ((p : ℕ) → l p ≡ k p)
    → ◌≡◌ {A = Fragment} (record { null = n; begins = f; ends = l }) (record { null = m; begins = g; ends = k })
fragment_ext e f l = λ i. record { null = e i; begins = λ p. f p i; ends = λ p. l p i }

pub empty_is : fragment_in (record { null = true; begins = 0; ends = 0 }) ≡ empty_fragment
empty_is = fragment_ext refl has_empty has_empty

pub letter_is : (p s : ℕ) → ((q : ℕ) → has_state s q ≡ (has_state 0 q || eqb q p)) → fragment_in (record { null = false; begins = s; ends = s }) ≡ letter_fragment p
letter_is p s h = fragment_ext refl one one
  where
    one : (q : ℕ) → has_state s q ≡ eqb q p
    one q = h q ∙ rw has_empty

pub has_only : (b : Bool) (s p : ℕ) → has_state (cond b s 0) p ≡ (b && has_state s p)
has_only true s p = refl
has_only false s p = has_empty p

-- a set with another, where b is true
pub has_more : (b : Bool) (s t : ℕ) {u : ℕ} → u ≡ cond b t 0 → (p : ℕ) → has_state (bit_or s u) p ≡ (has_state s p || b && has_state t p)
has_more b s t e p = rw (e, has_or s (cond b t 0) p, has_only)

pub then_is : (a b : Operand) {u v : ℕ} → u ≡ cond a.null b.begins 0 → v ≡ cond b.null a.ends 0
    → fragment_in (record { null = a.null && b.null; begins = bit_or a.begins u; ends = bit_or b.ends v }) ≡ then_fragment (fragment_in a) (fragment_in b)
then_is a b e f = fragment_ext refl (has_more a.null a.begins b.begins e) (has_more b.null b.ends a.ends f)

pub or_is : (a b : Operand)
    → fragment_in (record { null = a.null || b.null; begins = bit_or a.begins b.begins; ends = bit_or a.ends b.ends }) ≡ or_fragment (fragment_in a) (fragment_in b)
or_is a b = fragment_ext refl (has_or a.begins b.begins) (has_or a.ends b.ends)

-- ---- the table: the rows so far, with what the states that are left still give

abbrev linked : ℕ → List ℕ → ℕ → ℕ → ℕ → Bool
linked begins rows s q p = has_state (get_or rows q 0) p || has_state s q && has_state begins p

pub record Linking (begins : ℕ) (rows₀ : List ℕ) (s₀ : ℕ) (rows : List ℕ) (s : ℕ) : Type 0 where
  pub sixteen : length rows ≡ 16
  pub same : (q p : ℕ) → linked begins rows s q p ≡ linked begins rows₀ s₀ q p

pub linking_first : (begins : ℕ) (rows : List ℕ) (s : ℕ) → length rows ≡ 16 → Linking begins rows s rows s
linking_first begins rows s l = record { sixteen = l; same = λ q p. refl }

pub linking_more : {begins : ℕ} {rows₀ : List ℕ} {s₀ : ℕ} {rows : List ℕ} {s q s' : ℕ} → Linking begins rows₀ s₀ rows s → Lowest s q → Rest s s'
    → Linking begins rows₀ s₀ (set rows q (bit_or (get_or rows q 0) begins)) s'
linking_more {begins} {rows₀} {s₀} {rows} {s} {q} {s'} k l r = record { sixteen = rw length-set k.sixteen; same = λ x p. turn x p ∙ k.same x p }
  where
    row : ℕ
    row = bit_or (get_or rows q 0) begins

    turn : (x p : ℕ) → linked begins (set rows q row) s' x p ≡ linked begins rows s x p
    turn x p = rw (r.has x, ← l.is) (by_eq q (λ j b. (has_state (get_or (set rows q row) j 0) p || (has_state s j && not b) && has_state begins p) ≡ linked begins rows s j p) now other x)
      where
        now : (has_state (get_or (set rows q row) q 0) p || (has_state s q && false) && has_state begins p) ≡ linked begins rows s q p
        now = rw (l.member, get_or-set_same rows q row 0 (omega (arith, l.small, k.sixteen)), has_or (get_or rows q 0) begins p, or-false)

        other : (j : ℕ) → (j ≡ q → ⊥) → (has_state (get_or (set rows q row) j 0) p || (has_state s j && true) && has_state begins p) ≡ linked begins rows s j p
        other j n = rw (get_or-set_other rows q j row 0 n, and-true)

pub linking_last : {begins : ℕ} {rows₀ : List ℕ} {s₀ : ℕ} {rows : List ℕ} {s : ℕ} → Linking begins rows₀ s₀ rows s → s ≡ 0 → table_in rows ≡ λ q p. linked begins rows₀ s₀ q p
linking_last {begins} {rows₀} {s₀} {rows} {s} k e = fun_ext λ q. fun_ext λ p. none q p ∙ k.same q p
  where
    none : (q p : ℕ) → has_state (get_or rows q 0) p ≡ linked begins rows s q p
    none q p = rw (e, has_empty q, or-false)
