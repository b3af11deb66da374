-- Loaded groups: the expression of a loaded path is that of the path with its group words replaced, so it has the same positions, and a letter holds
-- what the customer's group does. With our eight words it runs as before. Assumes nothing.
use mathlib.Core.Path.{◌≡◌, refl, sym, ap, ◌∙◌, fun_ext}
use mathlib.Core.Logic.{◌↔◌, inl, inr}
use mathlib.Core.Bool.{Bool, true, false}
use mathlib.Core.List.{List, [], ◌∷◌, map}
use mathlib.Core.Option
use mathlib.Core.Option.{Option, none, some}
use Prim.Native.Nat.{ℕ, zero, suc, ◌+◌}
use native.Mathlib.Omega.{arith}
use lib.Dec.{T}
use lib.ListN.{get_or, drop, get_or-map}
use borrow.Author.Tests.{eqb-true}
use Rattle.sets.proofs.Tests.{either, is_true, and_iff}
use Rattle.sets.proofs.Filter.{map_append}
use Rattle.files.specs.Path.{is_label, sort_of, group_of, operator_of}
use Rattle.files.specs.Field.{labels_of}
use Rattle.files.specs.Groups.{is_range, is_group, load, loaded, our_groups, Ranges}
use Rattle.files.proofs.Groups.{load_label, loaded_head, loaded_body, ours_ranges}
use Rattle.expressions.specs.Expr.{Expr, empty, letter, then, or, star, Matches, letters, count}
use Rattle.expressions.specs.Positions.{nullable, first, last, follow, next, accepts, label_word, step}
use Rattle.expressions.specs.Postfix.{Item, put_empty, put_letter, make_then, make_or, make_star, read}
use Rattle.expressions.specs.Labels.{in_range, holds, holds_by, operator_item, item, or_empty, expr_of}
use Rattle.expressions.proofs.Labels.{range_holds}
use Rattle.expressions.proofs.Glushkov.{All-map}

-- two expressions whose automata run alike
pub record Alike (holds : ℕ → ℕ → Bool) (e e' : Expr) : Type 0 where
  pub counts : count e ≡ count e'
  pub accepting : accepts e ≡ accepts e'
  pub steps : step holds e ≡ step holds e'

-- ---- other letters in the same places

module _ (f : ℕ → ℕ) where
  abbrev relabel : Expr → Expr
  relabel empty = empty
  relabel (letter l) = letter (f l)
  relabel (then a b) = then (relabel a) (relabel b)
  relabel (or a b) = or (relabel a) (relabel b)
  relabel (star a) = star (relabel a)

  abbrev reitem : Item → Item
  reitem put_empty = put_empty
  reitem (put_letter l) = put_letter (f l)
  reitem make_then = make_then
  reitem make_or = make_or
  reitem make_star = make_star

  read_relabel : (is : List Item) (s : List Expr) → read (map reitem is) (map relabel s) ≡ Option.map relabel (read is s)
  read_relabel [] [] = refl
  read_relabel [] (e ∷ []) = refl
  read_relabel [] (b ∷ a ∷ s) = refl
  read_relabel (put_empty ∷ is) s = read_relabel is (empty ∷ s)
  read_relabel (put_letter l ∷ is) s = read_relabel is (letter l ∷ s)
  read_relabel (make_then ∷ is) [] = refl
  read_relabel (make_then ∷ is) (b ∷ []) = refl
  read_relabel (make_then ∷ is) (b ∷ a ∷ s) = read_relabel is (then a b ∷ s)
  read_relabel (make_or ∷ is) [] = refl
  read_relabel (make_or ∷ is) (b ∷ []) = refl
  read_relabel (make_or ∷ is) (b ∷ a ∷ s) = read_relabel is (or a b ∷ s)
  read_relabel (make_star ∷ is) [] = refl
  read_relabel (make_star ∷ is) (a ∷ s) = read_relabel is (star a ∷ s)

  count_same : (e : Expr) → count (relabel e) ≡ count e
  count_same empty = refl
  count_same (letter l) = refl
  count_same (then a b) = rw (count_same a, count_same b)
  count_same (or a b) = rw (count_same a, count_same b)
  count_same (star a) = count_same a

  nullable_same : (e : Expr) → nullable (relabel e) ≡ nullable e
  nullable_same empty = refl
  nullable_same (letter l) = refl
  nullable_same (then a b) = rw (nullable_same a, nullable_same b)
  nullable_same (or a b) = rw (nullable_same a, nullable_same b)
  nullable_same (star a) = refl

  first_same : (e : Expr) (k p : ℕ) → first (relabel e) k p ≡ first e k p
  first_same empty k p = refl
  first_same (letter l) k p = refl
  first_same (then a b) k p = rw (first_same a k p, nullable_same a, count_same a, first_same b (k + count a) p)
  first_same (or a b) k p = rw (first_same a k p, count_same a, first_same b (k + count a) p)
  first_same (star a) k p = first_same a k p

  last_same : (e : Expr) (k p : ℕ) → last (relabel e) k p ≡ last e k p
  last_same empty k p = refl
  last_same (letter l) k p = refl
  last_same (then a b) k p = rw (last_same a k p, nullable_same b, count_same a, last_same b (k + count a) p)
  last_same (or a b) k p = rw (last_same a k p, count_same a, last_same b (k + count a) p)
  last_same (star a) k p = last_same a k p

  follow_same : (e : Expr) (k q p : ℕ) → follow (relabel e) k q p ≡ follow e k q p
  follow_same empty k q p = refl
  follow_same (letter l) k q p = refl
  follow_same (then a b) k q p =
      rw (follow_same a k q p, count_same a, follow_same b (k + count a) q p, last_same a k q, first_same b (k + count a) p)
  follow_same (or a b) k q p = rw (follow_same a k q p, count_same a, follow_same b (k + count a) q p)
  follow_same (star a) k q p = rw (follow_same a k q p, last_same a k q, first_same a k p)

  next_same : (e : Expr) (q p : ℕ) → next (relabel e) q p ≡ next e q p
  next_same e zero p = first_same e 0 p
  next_same e (suc q) p = follow_same e 0 (suc q) p

  accepts_same : (e : Expr) (q : ℕ) → accepts (relabel e) q ≡ accepts e q
  accepts_same e zero = nullable_same e
  accepts_same e (suc q) = last_same e 0 (suc q)

  letters_are : (e : Expr) → letters (relabel e) ≡ map f (letters e)
  letters_are empty = refl
  letters_are (letter l) = refl
  letters_are (then a b) = rw (letters_are a, letters_are b, map_append f (letters a) (letters b))
  letters_are (or a b) = rw (letters_are a, letters_are b, map_append f (letters a) (letters b))
  letters_are (star a) = letters_are a

  module _ (none : f 0 ≡ 0) where
    label_is : (e : Expr) (p : ℕ) → label_word (relabel e) p ≡ f (label_word e p)
    label_is e zero = sym none
    label_is e (suc p) = rw (letters_are e) (ap (get_or (map f (letters e)) p) (sym none) ∙ get_or-map f (letters e) p 0)

    -- the automaton steps as that of the expression whose letters hold what the new ones do
    relabel_steps : (holds : ℕ → ℕ → Bool) (e : Expr) → step holds (relabel e) ≡ step (λ l a. holds (f l) a) e
    relabel_steps holds e = fun_ext λ q. fun_ext λ a. fun_ext λ p. rw (next_same e q p, label_is e p)

    relabel_alike : (holds : ℕ → ℕ → Bool) → ((l a : ℕ) → holds (f l) a ≡ holds l a) → (e : Expr) → Alike holds (relabel e) e
    relabel_alike holds h e = record {
      counts = count_same e;
      accepting = fun_ext (accepts_same e);
      steps = relabel_steps holds e ∙ ap (λ k. step k e) (fun_ext λ l. fun_ext λ a. h l a);
    }

  -- the words are those of the expression whose letters hold what the new ones do
  matches_relabel : (h : ℕ → ℕ → Bool) (e : Expr) (w : List ℕ) → Matches h (relabel e) w ↔ Matches (λ l a. h (f l) a) e w
  matches_relabel h empty w = (λ m. m, λ m. m)
  matches_relabel h (letter l) w = (λ m. m, λ m. m)
  matches_relabel h (then a b) w = (
    λ (u, v, e, x, y). (u, v, e, (matches_relabel h a u).0 x, (matches_relabel h b v).0 y),
    λ (u, v, e, x, y). (u, v, e, (matches_relabel h a u).1 x, (matches_relabel h b v).1 y),
  )
  matches_relabel h (or a b) w = (
    λ m. elim m [ inl x ↦ inl ((matches_relabel h a w).0 x) | inr y ↦ inr ((matches_relabel h b w).0 y) ],
    λ m. elim m [ inl x ↦ inl ((matches_relabel h a w).1 x) | inr y ↦ inr ((matches_relabel h b w).1 y) ],
  )
  matches_relabel h (star a) w = (
    λ (us, e, x). (us, e, All-map (λ u. (matches_relabel h a u).0) us x),
    λ (us, e, x). (us, e, All-map (λ u. (matches_relabel h a u).1) us x),
  )

-- ---- a loaded path's expression

as_letter : (w : ℕ) → is_label w ≡ true → item w ≡ put_letter w
as_letter w t = rw t

pub as_operator : (w : ℕ) → is_label w ≡ false → item w ≡ operator_item (operator_of w)
as_operator w n = rw n

pub unmoved : (groups : List ℕ) (w : ℕ) → is_label w ≡ false → load groups w ≡ w
unmoved groups w n = rw n

module _ (groups : List ℕ) (r : Ranges groups) where
  operator_same : (k : ℕ) → operator_item k ≡ reitem (load groups) (operator_item k)
  operator_same zero = refl
  operator_same (suc zero) = refl
  operator_same (suc (suc zero)) = refl
  operator_same (suc (suc (suc k))) = refl

  item_load : (w : ℕ) → item (load groups w) ≡ reitem (load groups) (item w)
  item_load w = elim (either (is_label w)) [
    | inl t ↦ as_letter (load groups w) (load_label groups r w ∙ t) ∙ sym (ap (reitem (load groups)) (as_letter w t))
    | inr n ↦ ap item (unmoved groups w n) ∙ as_operator w n ∙ operator_same (operator_of w) ∙ sym (ap (reitem (load groups)) (as_operator w n))
  ]

  items_load : (ws : List ℕ) → map item (map (load groups) ws) ≡ map (reitem (load groups)) (map item ws)
  items_load [] = refl
  items_load (w ∷ ws) = rw (items_load ws) (ap (◌∷ map (reitem (load groups)) (map item ws)) (item_load w))

  or_empty_lem : (o : Option Expr) → or_empty (Option.map (relabel (load groups)) o) ≡ relabel (load groups) (or_empty o)
  or_empty_lem none = refl
  or_empty_lem (some e) = refl

  expr_load : (ws : List ℕ) → expr_of (map (load groups) ws) ≡ relabel (load groups) (expr_of ws)
  expr_load ws = rw (items_load ws) (ap or_empty (read_relabel (load groups) (map item ws) []) ∙ or_empty_lem (read (map item ws) []))

  -- a label word of the loaded path holds what the customer's group does
  pub load_holds : (l a : ℕ) → holds (load groups l) a ≡ holds_by groups l a
  load_holds l a = elim (either (is_group l)) [
    | inl t ↦ ap (λ w. holds w a) (named t) ∙ range (get_or groups (group_of l) 0) (r.each (group_of l) (omega arith)) ∙ sym (by_word t)
    | inr n ↦ ap (λ w. holds w a) (other n) ∙ same n
  ]
    where
      named : is_group l ≡ true → load groups l ≡ get_or groups (group_of l) 0
      named t = rw t

      by_word : is_group l ≡ true → holds_by groups l a ≡ in_range (get_or groups (group_of l) 0) a
      by_word t = rw t

      other : is_group l ≡ false → load groups l ≡ l
      other n = rw n

      same : is_group l ≡ false → holds l a ≡ holds_by groups l a
      same n = rw n

      range : (w : ℕ) → T (is_range w) → holds w a ≡ in_range w a
      range w k = range_holds w a (eqb-true (sort_of w) 0 (is_true _ (simp and_iff at k).0.1))

  all_hold : (λ l a. holds (load groups l) a) ≡ holds_by groups
  all_hold = fun_ext λ l. fun_ext λ a. load_holds l a

  -- Document 02: word g replaces group g. The words of the loaded path's expression are those of the path's own, a group word read by the customer's.
  pub grouped_meaning : (ws w : List ℕ) → Matches holds (expr_of (map (load groups) ws)) w ↔ Matches (holds_by groups) (expr_of ws) w
  grouped_meaning ws w = rw (expr_load ws, ← all_hold) (matches_relabel (load groups) holds (expr_of ws) w)

  -- so with its steps: the loaded path's automaton steps as the path's own does
  pub grouped_steps : (ws : List ℕ) → step holds (expr_of (map (load groups) ws)) ≡ step (holds_by groups) (expr_of ws)
  grouped_steps ws = rw (expr_load ws) (relabel_steps (load groups) refl holds (expr_of ws) ∙ ap (λ h. step h (expr_of ws)) all_hold)

-- two paths that are read alike
pub record SamePath (path path' : List ℕ) : Type 0 where
  pub labels : labels_of (get_or path 0 0) ≡ labels_of (get_or path' 0 0)
  pub alike : Alike holds (expr_of (drop 1 path)) (expr_of (drop 1 path'))

-- our own groups: any path, accepted or not, is read as it is with our eight words loaded
pub ours_same : (path : List ℕ) → SamePath (loaded our_groups path) path
ours_same path = record {
  labels = ap labels_of (loaded_head our_groups path);
  alike = rw (loaded_body our_groups path, expr_load our_groups ours_ranges (drop 1 path))
      (relabel_alike (load our_groups) refl holds (load_holds our_groups ours_ranges) (expr_of (drop 1 path)));
}
