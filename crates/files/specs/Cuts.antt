-- Believed. A cut list: one site byte for each node word of a whole, in order. Document 01, "Cutter".
use Rattle.std.specs.Prelude.{ℕ, Bool, not, ◌&&◌, List, eqb, leb, length}
use Rattle.sets.specs.Sets.{filter, any}
use Rattle.files.specs.Refuse.{◌then◌, ◌unless◌}
use Rattle.files.specs.Part.{is_node}

-- a byte that is no site
abbrev pub no_site : ℕ → Bool
no_site c = not (leb c 15)

-- 11: the cut list, for the words of a whole after its header, then the asked site
abbrev pub cut_check : List ℕ → List ℕ → ℕ → ℕ
cut_check whole cuts site =
    11 unless (eqb (length cuts) (length (filter is_node whole)) && not (any no_site cuts))
    then 11 unless leb site 15
