-- Believed. The draws of the load bench: a 32-bit state, and the numbers that it hands out. Document 02, request 2.
use Rattle.std.specs.Prelude.{ℕ, zero, suc, ◌+◌, ◌*◌, ◌/◌, ◌%◌, ◌^◌}

-- each draw moves the state on, wrapping at 32 bits
abbrev pub moved : ℕ → ℕ
moved s = (s * 1664525 + 1013904223) % 2 ^ 32

-- the upper 16 bits of a state
abbrev pub upper_bits : ℕ → ℕ
upper_bits s = s / 2 ^ 16

-- the state after k draws
abbrev pub after : ℕ → ℕ → ℕ
after zero s = s
after (suc k) s = moved (after k s)

-- what draw i hands out, from 0 on: the upper bits of the new state
abbrev pub drawn : ℕ → ℕ → ℕ
drawn s i = upper_bits (after (suc i) s)
