-- Numbers in one, a byte each: each is read back. Assumes nothing.
use mathlib.Core.Path.{◌≡◌, refl, ◌∙◌, ap}
use mathlib.Core.List.{List, [], ◌∷◌}
use Prim.Native.Nat.{ℕ, zero, suc, ◌+◌, ◌*◌, ◌/◌, ◌<◌}
use native.Mathlib.Omega.{arith}
use lib.ListN.{get_or}
use Rattle.sets.specs.Sets.{Mem, here, there}
use Rattle.path_bundles.specs.Packed.{packed, byte_at}

byte_none : (i : ℕ) → byte_at i 0 ≡ 0
byte_none zero = refl
byte_none (suc i) = byte_none i

pub packed_byte : (i : ℕ) (ns : List ℕ) → ((n : ℕ) → Mem n ns → n < 256) → byte_at i (packed ns) ≡ get_or ns i 0
packed_byte i [] h = byte_none i
packed_byte zero (n ∷ ns) h = omega (arith, h n (here refl))
packed_byte (suc i) (n ∷ ns) h =
    let q : (n + 256 * packed ns) / 256 ≡ packed ns = omega (arith, h n (here refl)) in
    ap (byte_at i) q ∙ packed_byte i ns (λ m k. h m (there k))
