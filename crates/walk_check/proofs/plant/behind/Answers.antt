-- `walk_check::plant::behind` meets its contract. Assumes nothing.
use borrow.Author.Rules.{rules}
use mathlib.Core.Path.{refl}
use Rattle.files.specs.Read.{left_of}
use Rattle.walk_check.proofs.Standing.{seeking_first, seeking_stopped, seeking_found, seeking_more}
use Rattle.walk_check.proofs.plant.behind.Goals as goal

pub loop-w-init : goal.loop-w-init
loop-w-init c = search (seeking_first, rules)

pub returns-then-stopped : goal.returns-then-stopped
returns-then-stopped c =
    seeking_stopped c.loop-w.invariant {ws = left_of c.next.new.self} (search rules) c.names.ensures (search rules) c.stopped.ensures (search rules)

pub returns-else-stopped : goal.returns-else-stopped
returns-else-stopped c =
    seeking_found c.loop-w.invariant (search rules) c.names.ensures c.next.new.self refl (search rules) c.stopped.ensures (search rules)

pub loop-w-preserved : goal.loop-w-preserved
loop-w-preserved c = search (seeking_more, rules)
