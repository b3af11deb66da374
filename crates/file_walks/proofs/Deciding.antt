-- Which of two walks is lower is decided at the first difference, whatever comes behind it; equal words decide nothing. Assumes nothing.
use mathlib.Core.Path.{◌≡◌, refl}
use mathlib.Core.Logic.{inr, ⊎_elim}
use mathlib.Core.List.{List, ◌∷◌}
use Prim.Native.Nat.{ℕ, ◌<◌}
use Rattle.file_walks.specs.Walks.{Lower}

pub first_decides : (v w : ℕ) (vs ws : List ℕ) → (v ≡ w → ⊥) → Lower (v ∷ vs) (w ∷ ws) → v < w
first_decides v w vs ws n l = ⊎_elim (λ h. h) (λ h. absurd (n h.0)) l

pub equal_passes : (v : ℕ) (vs ws : List ℕ) → Lower vs ws → Lower (v ∷ vs) (v ∷ ws)
equal_passes v vs ws l = inr (refl, l)
