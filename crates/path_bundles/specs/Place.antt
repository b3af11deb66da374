-- Inner. The file of an index, found by going from header to header.
use Rattle.std.specs.Prelude.{ℕ, zero, suc, List}
use Rattle.path_bundles.specs.Split.{file_in, behind}

-- empty past the last
abbrev pub file_at : ℕ → List ℕ → List ℕ
file_at zero s = file_in s
file_at (suc i) s = file_at i (behind s)
