-- `path_bundles::split::file_in` meets its contract. Assumes nothing.
use borrow.Author.Rules.{rules}
use native.Mathlib.Omega.{arith}
use mathlib.Core.Path.{sym}
use lib.Seq.{length-take-le}
use Rattle.path_bundles.proofs.Places.{file_all}
use Rattle.path_bundles.proofs.split.file_in.Goals as goal

pub slice_bounds-result-end : goal.slice_bounds-result-end
slice_bounds-result-end c = sym (length-take-le _ _ c.if-n-stretch.true)

pub returns-then-n-stretch : goal.returns-then-n-stretch
returns-then-n-stretch c = record { is = cc; within = rw (length-take-le _ _ c.if-n-stretch.true) c.if-n-stretch.true }

pub returns-else-n-stretch : goal.returns-else-n-stretch
returns-else-n-stretch c = record { is = search (file_all, rules); within = omega arith }
