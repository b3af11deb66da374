-- The call: what passed checks say, that neither file is over its limit, and what the call leaves. Assumes nothing.
use mathlib.Core.Path.{◌≡◌, refl, sym, subst, ◌∙◌, ap}
use mathlib.Core.List.{List}
use Prim.Native.Nat.{ℕ, zero, suc, ◌≤◌}
use native.Mathlib.Omega.{arith}
use borrow.Author.Tests.{le-leb}
use lib.ListN.{length}
use Rattle.files.specs.Refuse.{room_check}
use Rattle.files.specs.Refusal.{code}
use Rattle.files.specs.declared.refusal.Refusal.{Refusal}
use Rattle.files.specs.Outcome.{outcome, Left, left, leaves}
use Rattle.files.specs.Limits.{part_words, path_words}
use Rattle.files.proofs.Checks.{checks as number-checks, outcome_gives, code_some}
use Rattle.output.specs.Writer.{Filed}
use Rattle.output.specs.Frame.{Checked, Passed, Responds, withheld, settled}
use Rattle.output.proofs.Frame.{passed, withholds, settles}
use Rattle.dearest.specs.Dearest.{dear_part, dear_path, left_both, leaves_both, dearest_number, dearest_call}
use Rattle.dearest.specs.Answer.{checks, Writable, part_outcome, path_outcome}
use Rattle.dearest.proofs.Accepted.{counts_iff, part_length, path_fits}

-- all passed
pub writable : {a b m D T n r : ℕ} → Checked part_words a m (checks b m D T n) r → r ≡ 0 → Writable a b D T n
writable {a} {b} {m} {D} {T} {n} e z =
    let p : Passed part_words a m (checks b m D T n) = passed z e refl refl in
    let q : room_check path_words b m ≡ 0 = p.read.0 in
    let h = simp number-checks at q in
    record { part_holds = p.room.holds; path_holds = h.0; counts = p.read.1.0 }

-- neither file is over its limit
pub files_fit : {a b D T n : ℕ} → Writable a b D T n → (length (dear_part D T) ≤ part_words) × (length (dear_path n) ≤ path_words)
files_fit {D = D} {T = T} {n = n} w =
    let c = (counts_iff D T n).0 w.counts in
    (omega (arith, part_length D T, c.small), omega (arith, path_fits n c.labels, c.few))

-- so neither is refused
pub part_taken : {a b D T n : ℕ} {part : List ℕ} (e : Refusal) → Writable a b D T n → Filed part_words a (dear_part D T) part (code e) → ⊥
part_taken e w f = code_some e (f.number ∙ rw (le-leb _ _ (files_fit w).0))

pub written : {a b D T n x y : ℕ} {part path : List ℕ} → Writable a b D T n → Filed part_words a (dear_part D T) part x → x ≡ 0 → Filed path_words b (dear_path n) path y
    → Filed part_words a (dear_part D T) part y × Filed path_words b (dear_path n) path y
written {a} {D = D} {T = T} {part = part} w f z g =
    let y = g.number ∙ rw (le-leb _ _ (files_fit w).1) in
    (subst (Filed part_words a (dear_part D T) part) (z ∙ sym y) f, g)

-- what both outputs leave is what the call leaves
both_left : (k a b m : ℕ) (p q : List ℕ) → (k ≡ 0 → (length p ≤ part_words) × (length q ≤ path_words))
    → left_both (leaves (outcome k part_words p) a m).number (leaves (outcome k part_words p) a m).output (leaves (outcome k path_words q) b 0).output
    (leaves (outcome k part_words p) a m).work ≡ leaves_both k p q a b m
both_left zero a b m p q h = rw (outcome_gives part_words p (h refl).0, outcome_gives path_words q (h refl).1)
both_left (suc k) a b m p q h = refl

-- settled: the part and the working buffer by `settle`, the path by `withhold`
pub settles_both : {a b m k r : ℕ} (D T n : ℕ) (part path work : List ℕ) {o q w : List ℕ}
    → Responds (part_outcome (dearest_number a b m D T n) D T) a part k × Responds (path_outcome (dearest_number a b m D T n) n) b path k
    → length part ≡ a → length path ≡ b → length work ≡ m → q ≡ withheld k path → left r o w ≡ settled k part work
    → left_both r o q w ≡ dearest_call a b m D T n
unfolding dearest_call
settles_both {a} {b} {m} D T n part path work (f, g) i j l e s =
    let whole = settles part work f i l s in
    rw (withholds path g j e) (ap (λ (x : Left). left_both x.number x.output (leaves (path_outcome (dearest_number a b m D T n) n) b 0).output x.work) whole
    ∙ both_left (dearest_number a b m D T n) a b m (dear_part D T) (dear_path n) (λ z. files_fit {a = a} {b = b} (writable {m = m} {r = 0} (record { is = sym z }) refl)))
