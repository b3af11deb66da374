-- Believed. The dearest part and path, whose first reply is the longest, and the call that writes them, each into an output of its own. Document
-- 02, request 13. D is the number of doors, T that of outside targets, n that of labels.
use Rattle.std.specs.Prelude.{ℕ, zero, suc, ◌+◌, ◌-◌, ◌*◌, true, false, ◌&&◌, leb, ltb}
use mathlib.Core.List.{List, [], ◌∷◌, map, flatten}
use Rattle.sets.specs.Sets.{span}
use Rattle.files.specs.Field.{file, node_word, edge_word}
use Rattle.files.specs.Path.{range_word, operator_word}
use Rattle.files.specs.Refuse.{◌then◌, ◌unless◌, room_check}
use Rattle.files.specs.Outcome.{zeros, padded}
use Rattle.files.specs.Limits.{part_words, path_words}

-- a door, linked with label 0 to the T nodes after the D doors
abbrev pub dear_door : ℕ → ℕ → ℕ → List ℕ
dear_door D T x = node_word x true false false ∷ map (edge_word 0) (span D T)

-- the part: site 0, without root, with nodes 0 to D - 1 as doors
unfoldable pub dear_part : ℕ → ℕ → List ℕ
dear_part D T = file 1 0 0 (flatten (map (dear_door D T) (span 0 D)))

-- all labels
abbrev pub full_range : ℕ
full_range = range_word 0 4095

-- k more ranges, each with its or right after it, and the star last
abbrev pub dear_rest : ℕ → List ℕ
dear_rest zero = operator_word 3 ∷ []
dear_rest (suc k) = full_range ∷ operator_word 2 ∷ dear_rest k

-- the path: a star of an or of n full ranges
unfoldable pub dear_path : ℕ → List ℕ
dear_path n = file 4 0 n (full_range ∷ dear_rest (n - 1))

-- 21: a zero, n above 15, D + T above 65,536, or a part over 4,096 words
abbrev pub counts_check : ℕ → ℕ → ℕ → ℕ
counts_check D T n =
    21 unless (ltb 0 D && ltb 0 T && ltb 0 n && leb n 15 && leb (D + T) 65536 && leb (1 + D * (1 + T)) part_words)

-- what a call with two outputs leaves: its number, the outputs and its working buffer
pub record LeftBoth : Type 0 where
  pub number : ℕ
  pub part : List ℕ
  pub path : List ℕ
  pub work : List ℕ

abbrev pub left_both : ℕ → List ℕ → List ℕ → List ℕ → LeftBoth
left_both number part path work = record { number = number; part = part; path = path; work = work }

-- what it leaves of outputs of a and b and a working buffer of m bytes, by its number: after acceptance the results, and zeros past them; a
-- refusal zeroes both outputs; the working buffer is zero after either
abbrev pub leaves_both : ℕ → List ℕ → List ℕ → ℕ → ℕ → ℕ → LeftBoth
leaves_both zero part path a b m = left_both 0 (padded a part) (padded b path) (zeros m)
leaves_both (suc k) part path a b m = left_both (suc k) (zeros a) (zeros b) (zeros m)

-- 1: the part's output below 16,384 bytes, the path's below 256, or the working buffer below 32,768; then 21
abbrev pub dearest_number : ℕ → ℕ → ℕ → ℕ → ℕ → ℕ → ℕ
dearest_number a b m D T n = room_check part_words a m then room_check path_words b m then counts_check D T n

unfoldable pub dearest_call : ℕ → ℕ → ℕ → ℕ → ℕ → ℕ → LeftBoth
dearest_call a b m D T n = leaves_both (dearest_number a b m D T n) (dear_part D T) (dear_path n) a b m
