-- `asking::sites::sites_of` meets its contract.
-- Assumes nothing.
use borrow.Author.Rules.{rules}
use native.Mathlib.Omega.{arith}
use Rattle.asking.proofs.Named.{named_none, named_more, named_all}
use Rattle.asking.proofs.sites.sites_of.Goals as goal

pub loop-byte-init : goal.loop-byte-init
loop-byte-init c = named_none _

pub loop-byte-preserved : goal.loop-byte-preserved
loop-byte-preserved c = named_more c.args.cuts.now c.loop-byte.sites c.loop-byte.byte-index _ c.loop-byte.invariant (search rules) (search rules)

pub returns : goal.returns
returns c = named_all c.args.cuts.now c.loop-byte.sites c.loop-byte.byte-index c.loop-byte.invariant (omega arith)
