-- A node by the position of its word, in an accepted part: it runs just if its word is not marked as stopped. Assumes nothing.
use mathlib.Core.Path.{◌≡◌}
use mathlib.Core.Bool.{true, not}
use mathlib.Core.List.{List}
use Prim.Native.Nat.{ℕ}
use lib.ListN.{drop}
use Rattle.sets.proofs.Tests.{is_true, passed, same_test, not_iff}
use Rattle.files.specs.Part.{part_check}
use Rattle.slots.specs.Slots.{node_at, stopped_at, number}
use Rattle.slots.proofs.Places.{node_in, nodes_same, stopped_iff}
use Rattle.file_walks.specs.Walks.{runs_in}
use Rattle.file_walks.proofs.Running.{runs_iff}

pub runs_at : (ws : List ℕ) → part_check ws ≡ 0 → (i : ℕ) → node_at ws i ≡ true → runs_in (drop 1 ws) (number ws i) ≡ not (stopped_at ws i)
runs_at ws c i n = same_test
    (λ t. (not_iff (stopped_at ws i)).1 (λ s. ((runs_iff (drop 1 ws) (number ws i)).0 t).1 ((stopped_iff ws c i n).1 (is_true (stopped_at ws i) s))))
    (λ t. (runs_iff (drop 1 ws) (number ws i)).1 (
      rw (nodes_same ws c) (node_in ws i n),
      λ m. (not_iff (stopped_at ws i)).0 t (passed ((stopped_iff ws c i n).0 m)),
    ))
