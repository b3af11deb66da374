-- The sites among the bytes of a cut list.
use mathlib.Core.Path.{◌≡◌, refl, sym, ◌∙◌}
use mathlib.Core.Bool.{Bool, true, false, ◌||◌, or-false}
use mathlib.Core.List.{List}
use Prim.Native.Nat.{ℕ, ◌+◌, ◌≤◌, ◌<◌}
use native.Mathlib.Numerals.{add-one}
use native.Mathlib.Omega.{arith}
use borrow.Author.Tests.{ne_eqb}
use lib.Dec.{eqb}
use lib.ListN.{length, drop, get_or}
use lib.Seq.{drop-cons, drop-length}
use Rattle.sets.specs.Sets.{member}
use Rattle.sets.specs.States.{has_state}
use Rattle.sets.proofs.StateSets.{has_empty}

-- a byte that is no site adds none
pub no_site_lem : (sites byte : ℕ) → 16 ≤ byte → (s : ℕ) → s < 16 → has_state sites s ≡ (has_state sites s || eqb s byte)
no_site_lem sites byte h s l = rw (ne_eqb s byte (λ e. omega arith), or-false)

-- the sites of the bytes before i, and those that the bytes from i on name
abbrev pub Named : List ℕ → ℕ → ℕ → Type 0
Named cuts sites i = (s : ℕ) → s < 16 → (has_state sites s || member s (drop i cuts)) ≡ member s cuts

pub named_none : (cuts : List ℕ) → Named cuts 0 0
named_none cuts = λ s l. rw has_empty

or_assoc : (a b c : Bool) → ((a || b) || c) ≡ (a || (b || c))
or_assoc true b c = refl
or_assoc false b c = refl

pub named_more : (cuts : List ℕ) (sites i next : ℕ) → Named cuts sites i → i < length cuts
    → ((s : ℕ) → s < 16 → has_state next s ≡ (has_state sites s || eqb s (get_or cuts i 0)))
    → Named cuts next (i + 1)
named_more cuts sites i next n h e = λ s l.
    rw (e s l, or_assoc, add-one) (rw (drop-cons cuts i 0) at (n s l))

pub named_all : (cuts : List ℕ) (sites i : ℕ) → Named cuts sites i → i ≡ length cuts → (s : ℕ) → s < 16 → has_state sites s ≡ member s cuts
named_all cuts sites i n e s l = sym (or-false (has_state sites s)) ∙ (rw (e, drop-length) at (n s l))
