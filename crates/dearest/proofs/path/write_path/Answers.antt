-- `dearest::path::write_path` meets its contract. Assumes nothing.
use mathlib.Core.List.{◌∷◌}
use Prim.Native.Nat.{◌-◌}
use borrow.Author.Rules.{rules}
use Rattle.output.proofs.Frame.{filed}
use Rattle.dearest.specs.Dearest.{full_range, dear_rest, dear_path}
use Rattle.dearest.proofs.path.write_path.Goals as goal

pub returns : goal.returns
unfolding dear_path
returns c =
    let labels = c.args.labels in
    filed (full_range ∷ dear_rest (labels - 1)) c.close.ensures c.write_ranges-count.ensures c.clear.ensures (search rules)
