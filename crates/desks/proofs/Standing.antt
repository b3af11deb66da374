-- Laws of where the desks stand: numbers that are entered, and words that are taken away. Assumes nothing.
use mathlib.Core.Path.{◌≡◌}
use mathlib.Core.List.{List, [], ◌∷◌, ◌++◌, append-nil}
use Prim.Native.Nat.{ℕ, ◌+◌, ◌-◌, ◌*◌, ◌/◌, ◌≤◌, ◌<◌}
use native.Mathlib.Omega.{arith}
use borrow.Author.Tests.{le-leb, lt-leb}
use borrow.Rule.Slice.PartMut.{mid_of, put_mid, mid_len}
use lib.ListN.{length, drop, length-drop, drop_of_length-le}
use Rattle.files.specs.Outcome.{zeros}
use Rattle.path_bundles.specs.Packed.{packed}
use Rattle.choices.specs.Choice.{short_words}
use Rattle.desks.specs.Owns.{short_part}
use Rattle.desks.specs.Stands.{Enters, Erased}

-- the lowest number is taken off, and the new one is worth 256⁷
pub entered : (numbers n : ℕ) {r : ℕ} → r ≡ numbers / 256 + 72057594037927936 * n → Enters numbers n r
entered numbers n {r} e = record { entered = by }
  where
    by : (ns : List ℕ) → length ns ≡ 7 → numbers ≡ packed (0 ∷ ns) → r ≡ packed (ns ++ n ∷ [])
    by [] l q = absurd (omega arith)
    by (a ∷ []) l q = absurd (omega arith)
    by (a ∷ b ∷ []) l q = absurd (omega arith)
    by (a ∷ b ∷ c ∷ []) l q = absurd (omega arith)
    by (a ∷ b ∷ c ∷ d ∷ []) l q = absurd (omega arith)
    by (a ∷ b ∷ c ∷ d ∷ f ∷ []) l q = absurd (omega arith)
    by (a ∷ b ∷ c ∷ d ∷ f ∷ g ∷ []) l q = absurd (omega arith)
    by (a ∷ b ∷ c ∷ d ∷ f ∷ g ∷ h ∷ []) l q = omega (arith, e, q)
    by (a ∷ b ∷ c ∷ d ∷ f ∷ g ∷ h ∷ i ∷ ns) l q = absurd (omega arith)

-- the end of the output is cleared
pub erased : (out : List ℕ) (at : ℕ) {part : List ℕ} → 4 * at ≤ length out → part ≡ zeros (length (mid_of (4 * at) (length out - 4 * at) out))
    → Erased at out (put_mid (4 * at) (length out - 4 * at) out part)
erased out at {part} h e =
    let l : length (mid_of (4 * at) (length out - 4 * at) out) ≡ length out - 4 * at = mid_len (4 * at) (length out) out (omega arith) in
    let none : drop (length out - 4 * at) (drop (4 * at) out) ≡ [] = drop_of_length-le (drop (4 * at) out) {i = length out - 4 * at} (omega (arith, length-drop (4 * at) out)) in
    record { is = rw (e, l, none, append-nil) }

-- the words of a reply that count as those of a short one
pub short_is : (size : ℕ) → size ≤ short_words → size ≡ short_part size
short_is size h = rw (le-leb size short_words h)

pub long_is : (size : ℕ) → short_words < size → 0 ≡ short_part size
long_is size h = rw (lt-leb size short_words h)
