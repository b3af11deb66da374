-- Files of the load bench word by word, with the states that are left, and which counts are accepted. Assumes nothing.
use mathlib.Core.Path.{◌≡◌, refl}
use mathlib.Core.List.{[], ◌∷◌, flatten}
use Prim.Native.Nat.{◌-◌, ◌^◌}
use Rattle.draws.specs.Draws.{drawn}
use Rattle.generator.specs.Generate.{generated, spent, bounds_check}

written :
    -- state 0, as docs/FORMATS.md has it draw by draw
    (generated (drawn 0) 3 2 ≡ 0x1000000a ∷ 0x20030000 ∷ 0x31cc0002 ∷ 0x3c6e0001 ∷ 0x20000001 ∷ 0x32520001 ∷ 0x37fe0002 ∷ 0x20000002 ∷ 0x31fd0001 ∷ 0x3bf60001 ∷ [])
    × (spent 0 3 2 ≡ 3167820124)
    -- the last state, and four edges
    × (generated (drawn (2 ^ 32 - 1)) 2 4 ≡ 0x1000000b ∷ 0x20030000 ∷ 0x32830001 ∷ 0x37b50000 ∷ 0x39a50000 ∷ 0x3c550001 ∷ 0x20000001 ∷ 0x33100000 ∷ 0x37460000 ∷ 0x37ce0001 ∷ 0x3fc20001 ∷ [])
    × (spent (2 ^ 32 - 1) 2 4 ≡ 208973839)
    -- equal edges, two and three of them: the file has one, and the state moves on by all draws
    × (generated (drawn 2189437) 1 2 ≡ 0x10000003 ∷ 0x20030000 ∷ 0x31f80000 ∷ []) × (spent 2189437 1 2 ≡ 2873314561)
    × (generated (drawn 30927704) 1 3 ≡ 0x10000003 ∷ 0x20030000 ∷ 0x37c20000 ∷ []) × (spent 30927704 1 3 ≡ 4280535326)
unfolding flatten generated
written = (refl, refl, refl, refl, refl, refl, refl, refl)

-- both sides of each line
counts :
    (bounds_check 1 1 ≡ 0) × (bounds_check 256 4 ≡ 0) × (bounds_check 0 1 ≡ 11) × (bounds_check 257 1 ≡ 11) × (bounds_check 1 0 ≡ 11) × (bounds_check 1 5 ≡ 11)
    × (bounds_check (2 ^ 32 - 1) 1 ≡ 11) × (bounds_check 1 (2 ^ 32 - 1) ≡ 11)
counts = (refl, refl, refl, refl, refl, refl, refl, refl)
