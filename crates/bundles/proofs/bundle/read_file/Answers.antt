-- `bundles::bundle::read_file` meets its contract.
-- Assumes nothing.
use mathlib.Core.Path.{refl}
use borrow.Author.Rules.{rules}
use Rattle.files.proofs.Checks.{code_some}
use Rattle.bundles.proofs.Stretches.{stretch_refused, stretch_taken, stretch_next}
use Rattle.bundles.proofs.bundle.read_file.Goals as goal

pub returns-in_err-check_head-clause-checked : goal.returns-in_err-check_head-clause-checked
returns-in_err-check_head-clause-checked c = search (stretch_refused, code_some, rules)

pub slice_bounds-check_words-end : goal.slice_bounds-check_words-end
slice_bounds-check_words-end c =
    stretch_taken c.args.stretch.now c.args.trip c.word_at-h.ensures c.kind_in.ensures c.in_ok-check_head.ensures refl c.size-len.ensures

pub returns-in_err-check_words-clause-checked : goal.returns-in_err-check_words-clause-checked
returns-in_err-check_words-clause-checked c = search (stretch_next, rules)

pub returns-clause-checked : goal.returns-clause-checked
returns-clause-checked c = search (stretch_next, rules)
