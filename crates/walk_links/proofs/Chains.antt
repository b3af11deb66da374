-- The last edge word into a node before a position. Assumes nothing.
use mathlib.Core.Path.{◌≡◌, refl, ap, subst, ◌∙◌}
use mathlib.Core.Logic.{inl, inr, ⊎_elim}
use mathlib.Core.Bool.{Bool, true, false, cond, ◌&&◌, and-false}
use mathlib.Core.List.{List}
use Prim.Native.Nat.{ℕ, zero, suc, ◌+◌, ◌<◌}
use native.Mathlib.Omega.{arith}
use borrow.Author.Tests.{eq-eqb, ne_eqb, eqb-true}
use lib.Dec.{eqb}
use Rattle.sets.proofs.Tests.{either}
use Rattle.sets.proofs.Cases.{clash, and_left, and_right, and_intro, eq_or_ne}
use Rattle.slots.specs.Slots.{edge_at, number}
use Rattle.walk_links.specs.Tables.{last_into}

module _ (ws : List ℕ) (t : ℕ) where
  abbrev into : ℕ → Bool
  into x = edge_at ws x && eqb (number ws x) t

  -- where there is one it leads to t
  pub last_edge : (n : ℕ) → (last_into ws t n ≡ 0 → ⊥) → (edge_at ws (last_into ws t n) ≡ true) × (number ws (last_into ws t n) ≡ t) × (last_into ws t n < n)
  last_edge zero h = absurd (h refl)
  last_edge (suc n) h = elim (either (into n)) [
    | inl e ↦ rw e (and_left (edge_at ws n) (eqb (number ws n) t) e, eqb-true (number ws n) t (and_right (edge_at ws n) (eqb (number ws n) t) e), omega arith)
    | inr e ↦ let r = last_edge n (rw e at h) in rw e (r.0, r.1, omega (arith, r.2))
  ]

  -- and behind it none does
  pub last_between : (n z : ℕ) → last_into ws t n < z → z < n → edge_at ws z ≡ true → number ws z ≡ t → ⊥
  last_between zero z l h e i = omega arith
  last_between (suc n) z l h e i = elim (either (into n)) [
    | inl d ↦ let l' : n < z = rw d at l in omega arith
    | inr d ↦ ⊎_elim
        (λ (q : z ≡ n). clash (subst (λ z. into z ≡ true) q (and_intro (edge_at ws z) (eqb (number ws z) t) e (eq-eqb (number ws z) t i))) d)
        (λ q. last_between n z (rw d at l) (omega (arith, q)) e i)
        (eq_or_ne z n)
  ]

  -- past one word: it leads to t, or it is no edge word, or it leads elsewhere
  last_next : (x : ℕ) → last_into ws t (x + 1) ≡ cond (into x) x (last_into ws t x)
  last_next x = let e : x + 1 ≡ suc x = omega arith in ap (last_into ws t) e

  pub last_here : (x : ℕ) → edge_at ws x ≡ true → number ws x ≡ t → last_into ws t (x + 1) ≡ x
  last_here x e i = last_next x ∙ rw (e, eq-eqb (number ws x) t i)

  pub last_other : (x : ℕ) → edge_at ws x ≡ false → last_into ws t (x + 1) ≡ last_into ws t x
  last_other x e = last_next x ∙ rw e

  pub last_else : (x : ℕ) → (number ws x ≡ t → ⊥) → last_into ws t (x + 1) ≡ last_into ws t x
  last_else x n = last_next x ∙ rw (ne_eqb (number ws x) t n, and-false)
