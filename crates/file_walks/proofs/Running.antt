-- A node runs just if it is a node of the file and not stopped. Assumes nothing.
use mathlib.Core.Logic.{◌↔◌}
use mathlib.Core.List.{List}
use Prim.Native.Nat.{ℕ}
use lib.Dec.{T}
use Rattle.sets.specs.Sets.{Mem}
use Rattle.sets.proofs.Sets.{member_iff}
use Rattle.files.specs.Part.{nodes, stopped, running}
use Rattle.files.proofs.Blocks.{running_iff}
use Rattle.file_walks.specs.Walks.{runs_in}

pub runs_iff : (ws : List ℕ) (x : ℕ) → T (runs_in ws x) ↔ (Mem x (nodes ws) × (Mem x (stopped ws) → ⊥))
runs_iff ws x = (
  λ t. (running_iff ws x).0 ((member_iff x (running ws)).0 t),
  λ r. (member_iff x (running ws)).1 ((running_iff ws x).1 r),
)
