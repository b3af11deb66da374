-- `site_calls::called::seed_call` meets its contract. Assumes nothing.
use borrow.Author.Rules.{rules}
use Rattle.site_calls.proofs.Calling.{seed_node, seeded_here}
use Rattle.site_calls.proofs.called.seed_call.Goals as goal

pub seed-requires : goal.seed-requires
seed-requires c = (search rules, search (seed_node, rules), search rules)

pub returns-then-holds : goal.returns-then-holds
returns-then-holds c = search (seeded_here, rules)
