-- `desks::stand::short_part` meets its contract. Assumes nothing.
use native.Mathlib.Omega.{arith}
use Rattle.desks.proofs.Standing.{short_is, long_is}
use Rattle.desks.proofs.stand.short_part.Goals as goal

pub returns-then-size-le-SHORT_WORDS : goal.returns-then-size-le-SHORT_WORDS
returns-then-size-le-SHORT_WORDS c = record { is = short_is _ (omega (arith, c.if-size-le-SHORT_WORDS.true)); few = omega (arith, c.if-size-le-SHORT_WORDS.true) }

pub returns-else-size-le-SHORT_WORDS : goal.returns-else-size-le-SHORT_WORDS
returns-else-size-le-SHORT_WORDS c = record { is = long_is c.args.size (omega (arith, c.if-size-le-SHORT_WORDS.false)); few = omega arith }
