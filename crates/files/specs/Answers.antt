-- Believed. A second reply: the answer words, ascending. Document 01, "Second reply".
use Rattle.std.specs.Prelude.{ℕ, Bool, ◌&&◌, List, map, eqb}
use Rattle.sets.specs.Sets.{filter}
use Rattle.files.specs.Field.{bits, kind_of, node_of}
use Rattle.files.specs.Refuse.{◌unless◌}
use Rattle.files.specs.Scan.{scan_ordered}

abbrev pub is_answer : ℕ → Bool
is_answer w = eqb (kind_of w) 14

-- the nodes of the answer words in a file or a bundle
abbrev pub answers_of : List ℕ → List ℕ
answers_of ws = map node_of (filter is_answer ws)

-- an answer word by itself
abbrev pub answer_check : ℕ → ℕ
answer_check w = 5 unless (is_answer w && eqb (bits 27 16 w) 0)

abbrev pub answers_check : ℕ → List ℕ → ℕ
answers_check h ws = scan_ordered answer_check 0 ws
