-- `bundles::overall::check_headers` meets its contract.
-- Assumes nothing.
use mathlib.Core.Path.{◌≡◌, refl, ◌∙◌}
use borrow.Author.Rules.{rules}
use Rattle.files.specs.Refusal.{code, number}
use Rattle.files.proofs.Checks.{code_some}
use Rattle.bundles.proofs.Repeats.{heading_first, heading_found, heading_more, heading_last}
use Rattle.bundles.proofs.overall.check_headers.Goals as goal

pub loop-start-init : goal.loop-start-init
loop-start-init c = search (heading_first, rules)

pub returns-in_err-ensure : goal.returns-in_err-ensure
returns-in_err-ensure c =
    let e : number c.from_residual.result ≡ code c.in_err-ensure.field-0.0 = search rules in
    e ∙ heading_found c.loop-start.invariant c.loop-start-test.true c.word_at-h.ensures c.clashes.ensures c.in_err-ensure.ensures (code_some c.in_err-ensure.field-0.0)

pub loop-start-preserved : goal.loop-start-preserved
loop-start-preserved c =
    heading_more c.loop-start.invariant c.loop-start-test.true c.word_at-h.ensures c.clashes.ensures c.in_ok-ensure.ensures refl
    c.site.ensures c.with-sites.ensures c.step-start.ensures

pub returns : goal.returns
returns c = search (heading_last, rules)
