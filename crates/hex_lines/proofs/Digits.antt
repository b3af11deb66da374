-- A digit's glyph, and a line from its digits.
use mathlib.Core.Path.{◌≡◌}
use mathlib.Core.List.{[], ◌∷◌}
use Prim.Native.Nat.{ℕ, ◌+◌, ◌-◌, ◌/◌, ◌%◌, ◌≤◌, ◌<◌}
use native.Mathlib.Nat.{div-one}
use native.Mathlib.Omega.{arith}
use borrow.Author.Tests.{lt-ltb, le-ltb}
use Rattle.io.specs.Digits.{hex_digit_ascii}
use Rattle.hex_lines.specs.Hex.{hex_line}

pub glyph_number : (d : ℕ) → d < 10 → 48 + d ≡ hex_digit_ascii d
glyph_number d h = rw (lt-ltb d 10 h)

pub glyph_letter : (d : ℕ) → 10 ≤ d → 97 + (d - 10) ≡ hex_digit_ascii d
glyph_letter d h = rw (le-ltb d 10 h) (omega arith)

pub line_is : (w : ℕ) {a b c d e f g h : ℕ}
    → a ≡ hex_digit_ascii (w / 0x1000_0000 % 16) → b ≡ hex_digit_ascii (w / 0x0100_0000 % 16) → c ≡ hex_digit_ascii (w / 0x0010_0000 % 16) → d ≡ hex_digit_ascii (w / 0x0001_0000 % 16)
    → e ≡ hex_digit_ascii (w / 0x1000 % 16) → f ≡ hex_digit_ascii (w / 0x100 % 16) → g ≡ hex_digit_ascii (w / 0x10 % 16) → h ≡ hex_digit_ascii (w % 16)
    → a ∷ b ∷ c ∷ d ∷ e ∷ f ∷ g ∷ h ∷ 10 ∷ [] ≡ hex_line w
line_is w a b c d e f g h = rw (a, b, c, d, e, f, g, h, div-one)
