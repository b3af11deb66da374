-- Inner. A word as text.
use Rattle.std.specs.Prelude.{ℕ, List, [], ◌∷◌}
use Rattle.io.specs.Digits.{hex_digit_ascii}
use Rattle.files.specs.Field.{bits}

-- a word's line: its eight hexadecimal digits, the highest first, and the line's end
abbrev pub hex_line : ℕ → List ℕ
hex_line w =
    hex_digit_ascii (bits 31 28 w) ∷ hex_digit_ascii (bits 27 24 w) ∷ hex_digit_ascii (bits 23 20 w) ∷ hex_digit_ascii (bits 19 16 w)
    ∷ hex_digit_ascii (bits 15 12 w) ∷ hex_digit_ascii (bits 11 8 w) ∷ hex_digit_ascii (bits 7 4 w) ∷ hex_digit_ascii (bits 3 0 w) ∷ 10 ∷ []
