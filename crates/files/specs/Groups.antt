-- Believed. Label groups: eight range words, which travel with a path. Document 01, "Words" (our own groups); document 02, request 3 (the
-- customer's).
use Rattle.std.specs.Prelude.{ℕ, ◌*◌, ◌<◌, Bool, cond, not, ◌&&◌, List, [], ◌∷◌, map, T, eqb, leb, length, get_or}
use Rattle.sets.specs.Sets.{any}
use Rattle.files.specs.Word.{words}
use Rattle.files.specs.Limits.{group_count}
use Rattle.files.specs.Refuse.{◌unless◌}
use Rattle.files.specs.Path.{is_label, sort_of, high_of, low_of, group_of}

-- a label word of sort 0 with its ends in order
abbrev pub is_range : ℕ → Bool
is_range w = is_label w && eqb (sort_of w) 0 && leb (low_of w) (high_of w)

-- 16, of the groups' bytes: just eight words, each of them such a word
abbrev pub groups_check : List ℕ → ℕ
groups_check s = 16 unless (eqb (length s) (4 * group_count) && not (any (λ w. not (is_range w)) (words s)))

-- a label word that names a group
abbrev pub is_group : ℕ → Bool
is_group w = is_label w && eqb (sort_of w) 1

-- loading: word g stands for group g, and any other word for itself
abbrev pub load : List ℕ → ℕ → ℕ
load groups w = cond (is_group w) (get_or groups (group_of w) 0) w

-- a path, by its words, with the groups loaded: its words behind the header name no group
abbrev pub loaded : List ℕ → List ℕ → List ℕ
loaded groups [] = []
loaded groups (h ∷ ws) = h ∷ map (load groups) ws

-- our eight words: the groups of document 01
abbrev pub our_groups : List ℕ
our_groups = 0x50fff000 ∷ 0x503ff000 ∷ 0x500ff000 ∷ 0x505ff400 ∷ 0x506ff600 ∷ 0x507ff700 ∷ 0x50bff800 ∷ 0x50ffffc0 ∷ []

-- for contracts of inner functions: every group has its range word
pub record Ranges (groups : List ℕ) : Type 0 where
  pub each : (g : ℕ) → g < group_count → T (is_range (get_or groups g 0))
