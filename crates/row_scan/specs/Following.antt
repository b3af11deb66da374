-- Inner. The rows behind a door word by word: which words belong to them, and what a word changes.
use Rattle.std.specs.Prelude.{◌≡◌, Bool, true, false, not, ◌&&◌, ◌||◌, ℕ, eqb}
use Rattle.sets.specs.States.{has_state}
use Rattle.files.specs.Field.{state_of}
use Rattle.files.specs.Reply.{is_row, is_reach}
use Rattle.row_scan.specs.declared.rows.Rows.{Rows}

-- a word of a door's rows
abbrev pub in_rows : ℕ → Bool
in_rows w = is_row w || is_reach w

-- a row word begins a row, which is followed if its state is left, and no later row of that state is
pub record TurnsRow (a : Rows) (w : ℕ) (b : Rows) : Type 0 where
  pub on : is_row w ≡ true → b.on ≡ has_state a.left (state_of w)
  pub left : is_row w ≡ true → (p : ℕ) → has_state b.left p ≡ (has_state a.left p && not (eqb p (state_of w)))
  pub other : is_row w ≡ false → b ≡ a
