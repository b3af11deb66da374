-- `bundles::bundle::check_files` meets its contract.
-- Assumes nothing.
use mathlib.Core.Path.{◌≡◌, refl, ◌∙◌}
use borrow.Author.Rules.{rules}
use Rattle.files.specs.Refusal.{code, number}
use Rattle.files.proofs.Checks.{code_some}
use Rattle.bundles.proofs.Stretches.{bundling_refused, bundling_within, bundling_less, bundling_more}
use Rattle.bundles.proofs.bundle.check_files.Goals as goal

pub returns-in_err-len : goal.returns-in_err-len
returns-in_err-len c =
    let e : number c.from_residual.result ≡ code c.in_err-len.field-0.0 = search rules in
    e ∙ bundling_refused c.loop-rest.invariant c.loop-rest-test.true c.in_err-len.ensures.checked (code_some c.in_err-len.field-0.0)

pub slice_bounds-rest-start : goal.slice_bounds-rest-start
slice_bounds-rest-start c = bundling_within c.loop-rest.invariant c.loop-rest-test.true c.in_ok-len.ensures.checked refl c.in_ok-len.ensures.next

pub slice_bounds-rest-count : goal.slice_bounds-rest-count
slice_bounds-rest-count c = bundling_within c.loop-rest.invariant c.loop-rest-test.true c.in_ok-len.ensures.checked refl c.in_ok-len.ensures.next

pub loop-rest-smaller : goal.loop-rest-smaller
loop-rest-smaller c = bundling_less c.loop-rest.invariant c.loop-rest-test.true c.in_ok-len.ensures.checked refl c.in_ok-len.ensures.next

pub loop-rest-preserved : goal.loop-rest-preserved
loop-rest-preserved c =
    bundling_more c.loop-rest.invariant c.loop-rest-test.true c.in_ok-len.ensures.checked refl c.in_ok-len.ensures.next
