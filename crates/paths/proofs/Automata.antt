-- The automaton that is built is the position automaton of the expression that is read. Assumes nothing.
use mathlib.Core.Path.{◌≡◌, refl, ap, subst, ◌∙◌}
use mathlib.Core.Bool.{Bool, false, cond, ◌&&◌, ◌||◌, and-true, and-false, or-false}
use mathlib.Core.List.{List, [], ◌∷◌}
use mathlib.Core.Option.{some}
use mathlib.Core.Logic.{inl, inr}
use Prim.Native.Nat.{ℕ, zero, suc}
use native.Mathlib.Numerals.{add-one}
use native.Mathlib.Omega.{arith}
use lib.Bits.{bit_or}
use lib.Dec.{T, eqb-suc-zero}
use lib.ListN.{length, get_or}
use Rattle.sets.specs.States.{has_state}
use Rattle.sets.proofs.Cases.{not_known}
use Rattle.sets.proofs.Tests.{passed, and_iff, le_iff, either}
use Rattle.sets.proofs.StateSets.{has_pow}
use Rattle.paths.specs.declared.letters.Letters.{Letters}
use Rattle.paths.specs.declared.operand.Operand.{Operand}
use Rattle.paths.specs.declared.builder.Builder.{Builder}
use Rattle.expressions.specs.Expr.{Expr, letters, count}
use Rattle.expressions.specs.Positions.{nullable, first, last, follow, next, accepts, label_word}
use Rattle.expressions.specs.Labels.{between, holds}
use Rattle.labels.specs.Interval.{contains}
use Rattle.paths.specs.Operand.{fragment_in, table_in}
use Rattle.paths.specs.Letters.{labels_at, reads, Labelled}
use Rattle.paths.specs.Builder.{stack_in, fragments_in, follow_in}
use Rattle.paths.specs.Automaton.{reads_in, Finishes}
use Rattle.expressions.proofs.Ranges.{last_within, follow_within, length_letters}
use Rattle.expressions.specs.Fragments.{Fragment, Construction, compute, construction_of, fragment_of, link}
use Rattle.paths.proofs.Operands.{has_more}

-- ---- after the last word

record Ended (e : Expr) (ws : List ℕ) (ps : List Fragment) (f : ℕ → ℕ → Bool) : Type 0 where
  pub words : ws ≡ letters e
  pub fragments : ps ≡ fragment_of e 0 ∷ []
  pub table : f ≡ follow e 0

ended : (e : Expr) (ws : List ℕ) (ps : List Fragment) (f : ℕ → ℕ → Bool) → compute [] ws ps f ≡ some (construction_of e) → Ended e ws ps f
ended e ws [] f h = let z : ◌≡◌ {A = ℕ} 0 1 = cc in absurd (omega arith)
ended e ws (a ∷ []) f h =
    let t : ◌≡◌ {A = Construction} (record { words = ws; whole = a; follows = f }) (construction_of e) = cc in
    record { words = ap (λ x. x.words) t; fragments = ap (λ x. x.whole ∷ []) t; table = ap (λ x. x.follows) t }
ended e ws (b ∷ a ∷ s) f h = let z : ◌≡◌ {A = ℕ} 0 1 = cc in absurd (omega arith)

-- the operand that is left
left : (os : List Operand) (h : ℕ) (a : Fragment) → stack_in os h ≡ a ∷ [] → fragment_in (get_or os 0 (record { null = false; begins = 0; ends = 0 })) ≡ a
left os zero a e = let z : ◌≡◌ {A = ℕ} 0 1 = cc in absurd (omega arith)
left os (suc zero) a e = cc
left os (suc (suc h)) a e = let z : ◌≡◌ {A = ℕ} 0 1 = cc in absurd (omega arith)

-- state 0 is no position
no_last : (e : Expr) → last e 0 0 ≡ false
no_last e = not_known (λ h. omega (arith, last_within e 0 0 (passed h)))

no_follow : (e : Expr) (p : ℕ) → follow e 0 0 p ≡ false
no_follow e p = not_known (λ h. omega (arith, follow_within e 0 0 p (passed h)))

next_is : (e : Expr) (q p : ℕ) → (follow e 0 q p || has_state 1 q && first e 0 p) ≡ next e q p
next_is e zero p = rw (no_follow e p, has_pow 0 0)
next_is e (suc q) p = rw (has_pow 0 (suc q), eqb-suc-zero q, or-false)

accepts_is : (e : Expr) (q : ℕ) → (last e 0 q || nullable e && has_state 1 q) ≡ accepts e q
accepts_is e zero = rw (no_last e, has_pow 0 0, and-true)
accepts_is e (suc q) = rw (has_pow 0 (suc q), eqb-suc-zero q, and-false, or-false)

-- a position reads the labels that its label word holds
reading_is : (e : Expr) (l : Letters) → Labelled l (letters e) → (label p : ℕ) → reads l label p ≡ reads_in e label p
reading_is e l k label p = rw (k.has p, length_letters e) (go p)
  where
    go : (p : ℕ) → (between 1 (count e) p && contains (labels_at l p) label) ≡ (between 1 (count e) p && holds (label_word e p) label)
    go zero = refl
    go (suc p) = elim (either (between 1 (count e) (suc p))) [ inl y ↦ rw y (at (passed y)) | inr n ↦ rw n ]
      where
        at : T (between 1 (count e) (suc p)) → contains (labels_at l (suc p)) label ≡ holds (get_or (letters e) p 0) label
        at t =
            let y = simp (and_iff, le_iff) at t in
            (rw add-one at (k.labels p (omega (arith, length_letters e)))).same label

pub finish_is : (b : Builder) {whole : Operand} (t : List ℕ) {u : ℕ}
    → table_in t ≡ link (table_in b.rows) (fragment_in (record { null = false; begins = 0; ends = 1 })) (fragment_in whole)
    → u ≡ cond whole.null 1 0 → whole ≡ get_or b.operands 0 (record { null = false; begins = 0; ends = 0 })
    → Finishes b (record { follow = t; accepts = bit_or whole.ends u; letters = b.letters })
finish_is b {whole} t {u} h v w e ws l n c =
    record {
      follows = λ q p. ap (λ f. f q p) h ∙ rows q p ∙ next_is e q p;
      accepting = λ q. has_more whole.null whole.ends 1 v q ∙ ends q ∙ accepts_is e q;
      reading = reading_is e b.letters named;
      labels = l.count ∙ same;
      small = omega (arith, same);
    }
  where
    x : Ended e ws (fragments_in b) (follow_in b)
    x = ended e ws (fragments_in b) (follow_in b) c

    same : length ws ≡ count e
    same = ap length x.words ∙ length_letters e

    named : Labelled b.letters (letters e)
    named = subst (λ z. Labelled b.letters z) x.words l

    fragment : fragment_in whole ≡ fragment_of e 0
    fragment = ap fragment_in w ∙ left b.operands b.waiting (fragment_of e 0) x.fragments

    rows : (q p : ℕ) → (has_state (get_or b.rows q 0) p || has_state 1 q && has_state whole.begins p) ≡ (follow e 0 q p || has_state 1 q && first e 0 p)
    rows q p = ap (λ f. f q p || has_state 1 q && has_state whole.begins p) x.table ∙ ap (λ y. follow e 0 q p || has_state 1 q && y.begins p) fragment

    ends : (q : ℕ) → (has_state whole.ends q || whole.null && has_state 1 q) ≡ (last e 0 q || nullable e && has_state 1 q)
    ends q = ap (λ y. y.ends q || y.null && has_state 1 q) fragment
