-- Inner. What the construction of the automaton holds, and what a word does to it: the step that `compute` takes.
use Rattle.std.specs.Prelude.{◌≡◌, Bool, false, List, [], ◌∷◌, ◌++◌, ℕ, zero, suc, ◌+◌, ◌-◌, ◌≤◌, length, get_or}
use Rattle.files.specs.Limits.{most_waiting}
use Rattle.expressions.specs.Postfix.{Item, put_empty, put_letter, make_then, make_or, make_star}
use Rattle.expressions.specs.Fragments.{Fragment, compute}
use Rattle.paths.specs.Operand.{fragment_in, table_in}
use Rattle.paths.specs.Letters.{Labelled}
use Rattle.paths.specs.declared.operand.Operand.{Operand}
use Rattle.paths.specs.declared.builder.Builder.{Builder}

-- the first h operands, the last of them first
abbrev pub stack_in : List Operand → ℕ → List Fragment
stack_in os zero = []
stack_in os (suc h) = fragment_in (get_or os h (record { null = false; begins = 0; ends = 0 })) ∷ stack_in os h

abbrev pub fragments_in : Builder → List Fragment
fragments_in b = stack_in b.operands b.waiting

abbrev pub follow_in : Builder → ℕ → ℕ → Bool
follow_in b = table_in b.rows

-- nothing is read yet
pub record Starts (b : Builder) : Type 0 where
  pub sized : length b.operands ≡ most_waiting
  pub waiting : b.waiting ≡ 0
  pub rows : follow_in b ≡ λ q p. false
  pub letters : Labelled b.letters []

-- r is b with the operand o in place of those that wait from index k on
pub record Replaced (b : Builder) (k : ℕ) (o : Operand) (r : Builder) : Type 0 where
  pub fragments : fragments_in r ≡ fragment_in o ∷ stack_in b.operands k
  pub waiting : r.waiting ≡ k + 1
  pub rows : r.rows ≡ b.rows
  pub letters : r.letters ≡ b.letters
  pub sized : length r.operands ≡ length b.operands

-- how many operands an item takes, and the letters that it has
abbrev pub operands_of : Item → ℕ
operands_of put_empty = 0
operands_of (put_letter l) = 0
operands_of make_then = 2
operands_of make_or = 2
operands_of make_star = 1

abbrev pub letters_of : Item → List ℕ
letters_of put_empty = []
letters_of (put_letter l) = l ∷ []
letters_of make_then = []
letters_of make_or = []
letters_of make_star = []

-- there are operands for the item, and room for what it makes
pub record Applicable (it : Item) (b : Builder) : Type 0 where
  pub enough : operands_of it ≤ b.waiting
  pub most : b.waiting ≤ most_waiting
  pub sized : length b.operands ≡ most_waiting
  pub room : suc (b.waiting - operands_of it) ≤ most_waiting
  pub few : b.letters.n + length (letters_of it) ≤ 15

-- r is what the item makes of b: for any items and label words, `compute` goes on from r
pub record Does (it : Item) (b r : Builder) : Type 0 where
  pub computes : (is : List Item) (ws : List ℕ) → b.letters.n ≡ length ws
      → compute (it ∷ is) ws (fragments_in b) (follow_in b) ≡ compute is (ws ++ letters_of it) (fragments_in r) (follow_in r)
  pub letters : (ws : List ℕ) → Labelled b.letters ws → Labelled r.letters (ws ++ letters_of it)
  pub waiting : r.waiting ≡ suc (b.waiting - operands_of it)
  pub sized : length r.operands ≡ length b.operands
