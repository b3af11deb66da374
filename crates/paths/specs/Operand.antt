-- Inner. What the sets of a program say: an operand is a fragment of an expression, and rows of states are a table of what may follow.
use Rattle.std.specs.Prelude.{ℕ, Bool, List, get_or}
use Rattle.expressions.specs.Fragments.{Fragment}
use Rattle.sets.specs.States.{has_state}
use Rattle.paths.specs.declared.operand.Operand.{Operand}

abbrev pub fragment_in : Operand → Fragment
fragment_in o = record { null = o.null; begins = has_state o.begins; ends = has_state o.ends }

-- p is in row q
abbrev pub table_in : List ℕ → ℕ → ℕ → Bool
table_in rows = λ q p. has_state (get_or rows q 0) p
