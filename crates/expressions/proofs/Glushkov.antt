-- The position automaton of an expression accepts exactly the expression's words: `glushkov`, at the end. Between the two
-- stands `Whole`, an automaton for a part of the expression: by induction over the expression it is the part's words, and
-- of the whole expression it is what `Run` accepts. Assumes nothing.
use mathlib.Core.Path.{◌≡◌, refl, sym, ap, subst, ◌∙◌}
use mathlib.Core.Logic.Iff
use mathlib.Core.Logic.{◌↔◌, ◌⊎◌, inl, inr}
use mathlib.Core.Bool.{Bool}
use mathlib.Core.List.{List, [], ◌∷◌, ◌++◌, append_assoc, append-nil}
use Prim.Native.Nat.{ℕ, zero, suc, ◌+◌, ◌≤◌}
use native.Mathlib.Nat.{add-zero}
use native.Mathlib.Numerals.{add-one}
use native.Mathlib.Omega.{arith}
use lib.Dec.{T, eqb→eq, eqb_refl}
use lib.ListN.{get_or, drop}
use lib.Seq.{drop-drop, drop-append_seam, get_or-drop}
use Rattle.expressions.specs.Expr.{Expr, empty, letter, then, or, star, concat, All, Matches, letters, count}
use Rattle.expressions.specs.Positions.{nullable, first, last, follow, next, accepts, Run}
use Rattle.sets.proofs.Tests.{or_iff, and_iff, join}
use Rattle.expressions.proofs.Ranges.{Within, first_within, last_within, follow_within, next_range, length_letters}

-- `reads p a`: position p reads the label a
module _ (reads : ℕ → ℕ → Bool) where
  -- w may come after position q in a word of e, before which k letters stand
  abbrev Rest : Expr → ℕ → ℕ → List ℕ → Type 0
  Rest e k q [] = T (last e k q)
  Rest e k q (a ∷ w) = (p : ℕ) × T (follow e k q p) × T (reads p a) × Rest e k p w

  -- w is a word of e
  abbrev Whole : Expr → ℕ → List ℕ → Type 0
  Whole e k [] = T (nullable e)
  Whole e k (a ∷ w) = (p : ℕ) × T (first e k p) × T (reads p a) × Rest e k p w

  -- Where the tests of e and c agree at the positions of e, so do the rests.
  inside : (e c : Expr) (k j : ℕ)
      → ((q p : ℕ) → Within e k q → T (follow e k q p) ↔ T (follow c j q p))
      → ((q : ℕ) → Within e k q → T (last e k q) ↔ T (last c j q))
      → (w : List ℕ) (q : ℕ) → Within e k q → Rest e k q w ↔ Rest c j q w
  inside e c k j f l [] q i = l q i
  inside e c k j f l (a ∷ w) q i = (
    λ r. (r.0, (f q r.0 i).0 r.1, r.2, (inside e c k j f l w r.0 (follow_within e k q r.0 r.1).1).0 r.3),
    λ r. let t = (f q r.0 i).1 r.1 in (r.0, t, r.2, (inside e c k j f l w r.0 (follow_within e k q r.0 t).1).1 r.3),
  )

  module _ (a b : Expr) (k : ℕ) where
    abbrev m : ℕ
    m = k + count a

    -- behind a position that begins a word of a part, the rests are the part's
    or_a : (w : List ℕ) (q : ℕ) → T (first a k q) → Rest a k q w ↔ Rest (or a b) k q w
    or_a w q t = inside a (or a b) k k
        (λ q p i. (λ t. search join, λ t. elim (simp or_iff at t) [ inl x ↦ x | inr y ↦ absurd (omega (arith, follow_within b m q p y)) ]))
        (λ q i. (λ t. search join, λ t. elim (simp or_iff at t) [ inl x ↦ x | inr y ↦ absurd (omega (arith, last_within b m q y)) ]))
        w q (first_within a k q t)

    or_b : (w : List ℕ) (q : ℕ) → T (first b m q) → Rest b m q w ↔ Rest (or a b) k q w
    or_b w q t = inside b (or a b) m k
        (λ q p i. (λ t. search join, λ t. elim (simp or_iff at t) [ inl x ↦ absurd (omega (arith, follow_within a k q p x)) | inr y ↦ y ]))
        (λ q i. (λ t. search join, λ t. elim (simp or_iff at t) [ inl x ↦ absurd (omega (arith, last_within a k q x)) | inr y ↦ y ]))
        w q (first_within b m q t)

    then_b : (w : List ℕ) (q : ℕ) → T (first b m q) → Rest b m q w ↔ Rest (then a b) k q w
    then_b w q t = inside b (then a b) m k
        (λ q p i. (
          λ t. search join,
          λ t. elim (simp or_iff at t) [
            | inl x ↦ elim (simp or_iff at x) [ inl y ↦ absurd (omega (arith, follow_within a k q p y)) | inr y ↦ y ]
            | inr y ↦ absurd (omega (arith, last_within a k q (simp and_iff at y).0))
          ],
        ))
        (λ q i. (λ t. search join, λ t. elim (simp or_iff at t) [ inl x ↦ x | inr y ↦ absurd (omega (arith, last_within a k q (simp and_iff at y).1)) ]))
        w q (first_within b m q t)

    -- a word of a, then a word of b
    then_rest : (u v : List ℕ) (q : ℕ) → Rest a k q u → Whole b m v → Rest (then a b) k q (u ++ v)
    then_rest [] [] q l n = search join
    then_rest [] (x ∷ v) q l r = (r.0, search join, r.2, (then_b v r.0 r.1).0 r.3)
    then_rest (x ∷ u) v q r s = (r.0, search join, r.2, then_rest u v r.0 r.3 s)

    then_whole : (u v : List ℕ) → Whole a k u → Whole b m v → Whole (then a b) k (u ++ v)
    then_whole [] [] n o = search join
    then_whole [] (x ∷ v) n r = (r.0, search join, r.2, (then_b v r.0 r.1).0 r.3)
    then_whole (x ∷ u) v r s = (r.0, search join, r.2, then_rest u v r.0 r.3 s)

    -- the way back: w is split where its positions cross from a to b
    rest_then : (w : List ℕ) (q : ℕ) → Within a k q → Rest (then a b) k q w
        → (u : List ℕ) × (v : List ℕ) × (w ≡ u ++ v) × Rest a k q u × Whole b m v
    rest_then [] q i l =
        elim (simp or_iff at l) [ inl x ↦ absurd (omega (arith, last_within b m q x)) | inr y ↦ let z = simp and_iff at y in ([], [], refl, z.1, z.0) ]
    rest_then (x ∷ w) q i r =
        elim (simp or_iff at r.1) [
          | inl y ↦ elim (simp or_iff at y) [
            | inl f ↦ let s = rest_then w r.0 (follow_within a k q r.0 f).1 r.3 in (x ∷ s.0, s.1, ap (x ∷◌) s.2, (r.0, f, r.2, s.3), s.4)
            | inr f ↦ absurd (omega (arith, follow_within b m q r.0 f))
          ]
          | inr y ↦ let z = simp and_iff at y in ([], x ∷ w, refl, z.0, (r.0, z.1, r.2, (then_b w r.0 z.1).1 r.3))
        ]

    whole_then : (w : List ℕ) → Whole (then a b) k w → (u : List ℕ) × (v : List ℕ) × (w ≡ u ++ v) × Whole a k u × Whole b m v
    whole_then [] n = let z = simp and_iff at n in ([], [], refl, z.0, z.1)
    whole_then (x ∷ w) r =
        elim (simp or_iff at r.1) [
          | inl f ↦ let s = rest_then w r.0 (first_within a k r.0 f) r.3 in (x ∷ s.0, s.1, ap (x ∷◌) s.2, (r.0, f, r.2, s.3), s.4)
          | inr y ↦ let z = simp and_iff at y in ([], x ∷ w, refl, z.0, (r.0, z.1, r.2, (then_b w r.0 z.1).1 r.3))
        ]

    -- a word of a or a word of b
    or_whole : (w : List ℕ) → Whole a k w ⊎ Whole b m w → Whole (or a b) k w
    or_whole [] (inl n) = search join
    or_whole [] (inr n) = search join
    or_whole (x ∷ w) (inl r) = (r.0, search join, r.2, (or_a w r.0 r.1).0 r.3)
    or_whole (x ∷ w) (inr r) = (r.0, search join, r.2, (or_b w r.0 r.1).0 r.3)

    whole_or : (w : List ℕ) → Whole (or a b) k w → Whole a k w ⊎ Whole b m w
    whole_or [] n = (or_iff (nullable a) (nullable b)).0 n
    whole_or (x ∷ w) r =
        elim (simp or_iff at r.1) [
          | inl f ↦ inl (r.0, f, r.2, (or_a w r.0 f).1 r.3)
          | inr f ↦ inr (r.0, f, r.2, (or_b w r.0 f).1 r.3)
        ]

  module _ (a : Expr) (k : ℕ) where
    -- words of a, one after another
    star_rest : (u v : List ℕ) (q : ℕ) → Rest a k q u → Whole (star a) k v → Rest (star a) k q (u ++ v)
    star_rest [] [] q l n = l
    star_rest [] (x ∷ v) q l r = (r.0, search join, r.2, r.3)
    star_rest (x ∷ u) v q r s = (r.0, search join, r.2, star_rest u v r.0 r.3 s)

    star_whole : (us : List (List ℕ)) → All (Whole a k) us → Whole (star a) k (concat us)
    star_whole [] ws = tt
    star_whole ([] ∷ us) ws = star_whole us ws.1
    star_whole ((x ∷ u) ∷ us) ws =
        let r = ws.0 in (r.0, r.1, r.2, star_rest u (concat us) r.0 r.3 (star_whole us ws.1))

    -- the way back: w is split where a word of a ends and the next one begins
    rest_star : (w : List ℕ) (q : ℕ) → Rest (star a) k q w
        → (u : List ℕ) × (us : List (List ℕ)) × (w ≡ u ++ concat us) × Rest a k q u × All (Whole a k) us
    rest_star [] q l = ([], [], refl, l, tt)
    rest_star (x ∷ w) q r =
        let s = rest_star w r.0 r.3 in
        elim (simp or_iff at r.1) [
          | inl f ↦ (x ∷ s.0, s.1, ap (x ∷◌) s.2, (r.0, f, r.2, s.3), s.4)
          | inr y ↦ let z = simp and_iff at y in ([], (x ∷ s.0) ∷ s.1, ap (x ∷◌) s.2, z.0, ((r.0, z.1, r.2, s.3), s.4))
        ]

    whole_star : (w : List ℕ) → Whole (star a) k w → (us : List (List ℕ)) × (w ≡ concat us) × All (Whole a k) us
    whole_star [] n = ([], refl, tt)
    whole_star (x ∷ w) r = let s = rest_star w r.0 r.3 in ((x ∷ s.0) ∷ s.1, ap (x ∷◌) s.2, ((r.0, r.1, r.2, s.3), s.4))

pub All-map : {P Q : List ℕ → Type 0} → ((u : List ℕ) → P u → Q u) → (us : List (List ℕ)) → All P us → All Q us
All-map f [] m = tt
All-map f (u ∷ us) m = (f u m.0, All-map f us m.1)

-- `all` are the label words of the whole expression
module _ (holds : ℕ → ℕ → Bool) (all : List ℕ) where
  abbrev reads : ℕ → ℕ → Bool
  reads p a = holds (get_or (0 ∷ all) p 0) a

  -- the letters of e stand in it behind the first k
  abbrev Stands : Expr → ℕ → Type 0
  Stands e k = (more : List ℕ) × (drop k all ≡ letters e ++ more)

  word_at : (l k : ℕ) → Stands (letter l) k → get_or (0 ∷ all) (k + 1) 0 ≡ l
  word_at l k s = rw add-one (ap (λ j. get_or all j 0) (sym (add-zero k)) ∙ sym (get_or-drop k all 0 0) ∙ ap (λ r. get_or r 0 0) s.1)

  left : (a b : Expr) (k : ℕ) → Stands (then a b) k → Stands a k
  left a b k s = (letters b ++ s.0, s.1 ∙ append_assoc (letters a) (letters b) s.0)

  right : (a b : Expr) (k : ℕ) → Stands (then a b) k → Stands b (k + count a)
  right a b k s = (s.0, rw (← drop-drop, s.1, append_assoc, ← length_letters a, drop-append_seam))

  sound : (e : Expr) (k : ℕ) → Stands e k → (w : List ℕ) → Whole reads e k w → Matches holds e w
  sound empty k s [] t = refl
  sound empty k s (x ∷ w) r = absurd r.1
  sound (letter l) k s [] t = absurd t
  sound (letter l) k s (x ∷ []) r = (x, refl, rw (eqb→eq r.0 (k + 1) r.1, word_at l k s) at r.2)
  sound (letter l) k s (x ∷ y ∷ w) r = absurd r.3.1
  sound (then a b) k s w r =
      let z = whole_then reads a b k w r in
      (z.0, z.1, z.2, sound a k (left a b k s) z.0 z.3, sound b (k + count a) (right a b k s) z.1 z.4)
  sound (or a b) k s w r =
      elim (whole_or reads a b k w r) [ inl x ↦ inl (sound a k (left a b k s) w x) | inr y ↦ inr (sound b (k + count a) (right a b k s) w y) ]
  sound (star a) k s w r = let z = whole_star reads a k w r in (z.0, z.1, All-map (sound a k s) z.0 z.2)

  complete : (e : Expr) (k : ℕ) → Stands e k → (w : List ℕ) → Matches holds e w → Whole reads e k w
  complete empty k s w e = rw e tt
  complete (letter l) k s w m = rw m.1 (k + 1, eqb_refl (k + 1), rw (word_at l k s) m.2, eqb_refl (k + 1))
  complete (then a b) k s w m =
      rw m.2 (then_whole reads a b k m.0 m.1 (complete a k (left a b k s) m.0 m.3) (complete b (k + count a) (right a b k s) m.1 m.4))
  complete (or a b) k s w (inl m) = or_whole reads a b k w (inl (complete a k (left a b k s) w m))
  complete (or a b) k s w (inr m) = or_whole reads a b k w (inr (complete b (k + count a) (right a b k s) w m))
  complete (star a) k s w m = rw m.1 (star_whole reads a k m.0 (All-map (complete a k s) m.0 m.2))

-- The rests are what the automaton accepts from its states.
module _ (holds : ℕ → ℕ → Bool) (e : Expr) where
  abbrev R : ℕ → ℕ → Bool
  R = reads holds (letters e)

  abbrev Accepted : ℕ → List ℕ → Type 0
  Accepted q w = (p : ℕ) × Run holds e q w p × T (accepts e p)

  one_more : (a : ℕ) (w : List ℕ) (q : ℕ) → ((p : ℕ) → 1 ≤ p → Rest R e 0 p w ↔ Accepted p w)
      → ((p : ℕ) × T (next e q p) × T (R p a) × Rest R e 0 p w) ↔ Accepted q (a ∷ w)
  one_more a w q ih = (
    λ r. let z = (ih r.0 (next_range e q r.0 r.1).0).0 r.3 in (z.0, (r.0, search join, z.1), z.2),
    λ z. let t = simp and_iff at z.1.1 in (z.1.0, t.0, t.1, (ih z.1.0 (next_range e q z.1.0 t.0).0).1 (z.0, z.1.2, z.2)),
  )

  rest_run : (w : List ℕ) (q : ℕ) → 1 ≤ q → Rest R e 0 q w ↔ Accepted q w
  rest_run [] zero h = absurd (omega arith)
  rest_run [] (suc q) h = (λ t. (suc q, refl, t), λ z. subst (λ p. T (accepts e p)) (sym z.1) z.2)
  rest_run (a ∷ w) zero h = absurd (omega arith)
  rest_run (a ∷ w) (suc q) h = one_more a w (suc q) (rest_run w)

  whole_run : (w : List ℕ) → Whole R e 0 w ↔ Accepted 0 w
  whole_run [] = (λ t. (0, refl, t), λ z. subst (λ p. T (accepts e p)) (sym z.1) z.2)
  whole_run (a ∷ w) = one_more a w 0 (rest_run w)

  pub glushkov : (w : List ℕ) → Matches holds e w ↔ ((p : ℕ) × Run holds e 0 w p × T (accepts e p))
  glushkov w =
      let s : Stands holds (letters e) e 0 = ([], sym (append-nil (letters e))) in
      Iff.trans (complete holds (letters e) e 0 s w, sound holds (letters e) e 0 s w) (whole_run w)
