-- Reading straight into the tables gives the tables of the expression that is read; and what items make they make on any stack. Assumes nothing.
use mathlib.Core.Path.{◌≡◌, refl, sym, ap, ◌∙◌}
use mathlib.Core.Bool.{false, or-false, or_assoc}
use mathlib.Core.List.{List, [], ◌∷◌, ◌++◌, append_assoc, append-nil}
use mathlib.Core.Option.{none, some, map, map-eq-some_iff}
use Prim.Native.Nat.{ℕ, ◌+◌}
use native.Mathlib.Omega.{arith}
use lib.ListN.{length, length-append}
use Rattle.expressions.specs.Expr.{Expr, empty, letter, then, or, star, letters, count}
use Rattle.expressions.specs.Postfix.{Item, put_empty, put_letter, make_then, make_or, make_star, read, items}
use Rattle.expressions.proofs.Ranges.{length_letters}
use Rattle.expressions.specs.Fragments.{Construction, link, compute, words_of, fragments_of, table_of, construction_of}

offset : (a : Expr) (ws : List ℕ) → length (ws ++ letters a) ≡ length ws + count a
offset a ws = simp (length-append, length_letters a)

ruleset by-stack = (table_of, link, offset, append-nil, append_assoc, or-false, or_assoc)

-- At any stack of expressions: `compute` holds their label words, their fragments and their table.
pub computes : (is : List Item) (s : List Expr) → compute is (words_of s) (fragments_of s) (table_of s) ≡ map construction_of (read is s)
computes [] [] = refl
computes [] (e ∷ []) = refl
computes [] (b ∷ a ∷ s) = refl
computes (put_empty ∷ is) s = simp by-stack at (computes is (empty ∷ s))
computes (put_letter l ∷ is) s = simp by-stack at (computes is (letter l ∷ s))
computes (make_then ∷ is) [] = refl
computes (make_then ∷ is) (b ∷ []) = refl
computes (make_then ∷ is) (b ∷ a ∷ s) = simp by-stack (simp by-stack at (computes is (then a b ∷ s)))
computes (make_or ∷ is) [] = refl
computes (make_or ∷ is) (b ∷ []) = refl
computes (make_or ∷ is) (b ∷ a ∷ s) = simp by-stack (computes is (or a b ∷ s))
computes (make_star ∷ is) [] = refl
computes (make_star ∷ is) (a ∷ s) = simp by-stack (computes is (star a ∷ s))

-- From the empty stack: the tables are those of the expression, and there are none where no expression is read.
pub compute_read : (is : List Item) → compute is [] [] (λ q p. false) ≡ map construction_of (read is [])
compute_read is = computes is []

pub computed : (is : List Item) (t : Construction) → compute is [] [] (λ q p. false) ≡ some t → (e : Expr) × (read is [] ≡ some e) × (construction_of e ≡ t)
computed is t h = (map-eq-some_iff construction_of (read is [])).0 (sym (compute_read is) ∙ h)

none_some : {e : Expr} → none ≡ some e → ⊥
none_some h = let z : ◌≡◌ {A = ℕ} 0 1 = cc in omega arith

-- items that make one expression make it on top of any stack
pub read_more : (is : List Item) (s : List Expr) (e : Expr) → read is s ≡ some e → (rest : List Item) (t : List Expr) → read (is ++ rest) (s ++ t) ≡ read rest (e ∷ t)
read_more [] [] e h rest t = absurd (none_some h)
read_more [] (a ∷ []) e h rest t = let q : a ≡ e = cc in ap (λ a. read rest (a ∷ t)) q
read_more [] (b ∷ a ∷ s) e h rest t = absurd (none_some h)
read_more (put_empty ∷ is) s e h rest t = read_more is (empty ∷ s) e h rest t
read_more (put_letter l ∷ is) s e h rest t = read_more is (letter l ∷ s) e h rest t
read_more (make_then ∷ is) [] e h rest t = absurd (none_some h)
read_more (make_then ∷ is) (b ∷ []) e h rest t = absurd (none_some h)
read_more (make_then ∷ is) (b ∷ a ∷ s) e h rest t = read_more is (then a b ∷ s) e h rest t
read_more (make_or ∷ is) [] e h rest t = absurd (none_some h)
read_more (make_or ∷ is) (b ∷ []) e h rest t = absurd (none_some h)
read_more (make_or ∷ is) (b ∷ a ∷ s) e h rest t = read_more is (or a b ∷ s) e h rest t
read_more (make_star ∷ is) [] e h rest t = absurd (none_some h)
read_more (make_star ∷ is) (a ∷ s) e h rest t = read_more is (star a ∷ s) e h rest t

-- two operands, the one behind the other
pub read_two : (is js : List Item) (a b : Expr) → read is [] ≡ some a → read js [] ≡ some b → (rest : List Item)
    → read (is ++ (js ++ rest)) [] ≡ read rest (b ∷ a ∷ [])
read_two is js a b h k rest = read_more is [] a h (js ++ rest) [] ∙ read_more js [] b k rest (a ∷ [])

-- Every expression is read from its items.
pub read_items : (e : Expr) → read (items e) [] ≡ some e
read_items empty = refl
read_items (letter l) = refl
read_items (then a b) = rw (append_assoc (items a) (items b) (make_then ∷ [])) (read_two (items a) (items b) a b (read_items a) (read_items b) (make_then ∷ []))
read_items (or a b) = rw (append_assoc (items a) (items b) (make_or ∷ [])) (read_two (items a) (items b) a b (read_items a) (read_items b) (make_or ∷ []))
read_items (star a) = read_more (items a) [] a (read_items a) (make_star ∷ []) []
