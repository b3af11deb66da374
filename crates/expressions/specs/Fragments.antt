-- Inner. The position automaton's tables straight from the items of a postfix expression, as a program makes them: a stack of fragments where
-- `read` has a stack of expressions. A set of positions is a test.
use Rattle.std.specs.Prelude.{Bool, true, false, ◌&&◌, ◌||◌, List, [], ◌∷◌, ◌++◌, ℕ, ◌+◌, eqb, length}
use Rattle.std.proofs.Math.Option.{Option, none, some}
use Rattle.expressions.specs.Expr.{Expr, letters}
use Rattle.expressions.specs.Positions.{nullable, first, last, follow}
use Rattle.expressions.specs.Postfix.{Item, put_empty, put_letter, make_then, make_or, make_star}

-- of an expression: whether the empty word is a word of it, and the positions that may begin and that may end a word
pub record Fragment : Type 0 where
  pub null : Bool
  pub begins : ℕ → Bool
  pub ends : ℕ → Bool

-- the label words of the positions from 1 on, the whole expression's fragment, and the table: `follows q p`, p may follow q
pub record Construction : Type 0 where
  pub words : List ℕ
  pub whole : Fragment
  pub follows : ℕ → ℕ → Bool

abbrev pub empty_fragment : Fragment
empty_fragment = record { null = true; begins = λ p. false; ends = λ p. false }

abbrev pub letter_fragment : ℕ → Fragment
letter_fragment n = record { null = false; begins = λ p. eqb p n; ends = λ p. eqb p n }

abbrev pub then_fragment : Fragment → Fragment → Fragment
then_fragment a b = record {
  null = a.null && b.null;
  begins = λ p. a.begins p || a.null && b.begins p;
  ends = λ p. b.ends p || b.null && a.ends p;
}

abbrev pub or_fragment : Fragment → Fragment → Fragment
or_fragment a b = record {
  null = a.null || b.null;
  begins = λ p. a.begins p || b.begins p;
  ends = λ p. a.ends p || b.ends p;
}

abbrev pub star_fragment : Fragment → Fragment
star_fragment a = record { null = true; begins = a.begins; ends = a.ends }

-- the table f, where what begins b may also follow what ends a
abbrev pub link : (ℕ → ℕ → Bool) → Fragment → Fragment → ℕ → ℕ → Bool
link f a b = λ q p. f q p || a.ends q && b.begins p

-- What the items make from the label words ws so far, the stack s of fragments and the table f.
abbrev pub compute : List Item → List ℕ → List Fragment → (ℕ → ℕ → Bool) → Option Construction
compute [] ws [] f = none
compute [] ws (a ∷ []) f = some (record { words = ws; whole = a; follows = f })
compute [] ws (b ∷ a ∷ s) f = none
compute (put_empty ∷ is) ws s f = compute is ws (empty_fragment ∷ s) f
compute (put_letter l ∷ is) ws s f = compute is (ws ++ l ∷ []) (letter_fragment (length ws + 1) ∷ s) f
compute (make_then ∷ is) ws [] f = none
compute (make_then ∷ is) ws (b ∷ []) f = none
compute (make_then ∷ is) ws (b ∷ a ∷ s) f = compute is ws (then_fragment a b ∷ s) (link f a b)
compute (make_or ∷ is) ws [] f = none
compute (make_or ∷ is) ws (b ∷ []) f = none
compute (make_or ∷ is) ws (b ∷ a ∷ s) f = compute is ws (or_fragment a b ∷ s) f
compute (make_star ∷ is) ws [] f = none
compute (make_star ∷ is) ws (a ∷ s) f = compute is ws (star_fragment a ∷ s) (link f a a)

-- what `compute` holds where `read` holds the stack s: the label words of s, its fragments and its table
abbrev pub words_of : List Expr → List ℕ
words_of [] = []
words_of (e ∷ s) = words_of s ++ letters e

abbrev pub fragment_of : Expr → ℕ → Fragment
fragment_of e k = record { null = nullable e; begins = first e k; ends = last e k }

abbrev pub fragments_of : List Expr → List Fragment
fragments_of [] = []
fragments_of (e ∷ s) = fragment_of e (length (words_of s)) ∷ fragments_of s

abbrev pub table_of : List Expr → ℕ → ℕ → Bool
table_of [] = λ q p. false
table_of (e ∷ s) = λ q p. table_of s q p || follow e (length (words_of s)) q p

-- what an expression's items make
abbrev pub construction_of : Expr → Construction
construction_of e = record { words = letters e; whole = fragment_of e 0; follows = follow e 0 }
