-- `builder::step` meets its contract. Assumes nothing.
use mathlib.Core.Path.{ap, ◌∙◌}
use Rattle.std.specs.Prelude.{Ok}
use Rattle.files.proofs.Exprs.{wrong_told}
use Rattle.paths.proofs.Building.{applicable_as, applicable_label, does_as, word_label, word_held, word_operator}
use Rattle.paths.proofs.builder.step.Goals as goal

pub put_label-requires : goal.put_label-requires
put_label-requires c =
    let is = c.in-Ok-Label.is ∙ ap Ok c.in-Ok-Label.field-0-is in
    applicable_label _ (applicable_as (word_label _ c.requires.ranges.0 c.args.w c.read_expr.ensures is) c.requires.applicable)

pub operate-requires : goal.operate-requires
operate-requires c =
    let is = c.in-Ok-Operator.is ∙ ap Ok c.in-Ok-Operator.field-0-is in
    applicable_as (word_operator _ c.requires.ranges.0 c.args.w c.read_expr.ensures is) c.requires.applicable

pub returns-in-Ok-Label : goal.returns-in-Ok-Label
returns-in-Ok-Label c =
    let is = c.in-Ok-Label.is ∙ ap Ok c.in-Ok-Label.field-0-is in
    does_as (word_label _ c.requires.ranges.0 c.args.w c.read_expr.ensures is)
    (c.put_label.ensures _ (word_held _ c.requires.ranges.0 c.args.w c.read_expr.ensures is c.resolve.ensures))

pub returns-in-Ok-Operator : goal.returns-in-Ok-Operator
returns-in-Ok-Operator c =
    let is = c.in-Ok-Operator.is ∙ ap Ok c.in-Ok-Operator.field-0-is in
    does_as (word_operator _ c.requires.ranges.0 c.args.w c.read_expr.ensures is) c.operate.ensures

pub returns-in-Err : goal.returns-in-Err
returns-in-Err c = absurd (wrong_told c.args.w c.read_expr.ensures c.in-Err.is c.requires.ranges.1)
