-- Believed. A call list against a site's part and path: the pairs of the part that it calls, and what refuses it. Document 01, "Second reply".
use Rattle.std.specs.Prelude.{ℕ, not, List, map, eqb, get_or, drop}
use Rattle.sets.specs.Sets.{filter, member, any}
use Rattle.files.specs.Field.{labels_of, pair_of, pair_node}
use Rattle.files.specs.Refuse.{◌then◌, ◌unless◌}
use Rattle.files.specs.Part.{nodes, doors}

-- the called pairs of the part
abbrev pub called_in : List ℕ → List ℕ → List ℕ
called_in part calls = filter (λ c. member (pair_node c) (nodes part)) (map pair_of calls)

-- 12 and 14: the call list against path and part
abbrev pub against_check : List ℕ → List ℕ → List ℕ → ℕ
against_check part path calls =
    12 unless eqb (labels_of (get_or calls 0 0)) (labels_of (get_or path 0 0))
    then 14 unless not (any (λ c. not (member (pair_node c) (doors (drop 1 part)))) (called_in (drop 1 part) (drop 1 calls)))
