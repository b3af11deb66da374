-- `eight_replies::call::eight_replies_grouped` meets its contract. Assumes nothing.
use borrow.Author.Rules.{rules}
use mathlib.Core.Path.{◌∙◌, ap}
use Rattle.files.specs.Outcome.{zeros}
use Rattle.eight_replies.proofs.Sharing.{desks_asking, eight_shared}
use Rattle.eight_replies.proofs.call.eight_replies_grouped.Goals as goal

pub share-numbers-requires : goal.share-numbers-requires
share-numbers-requires c = search (desks_asking, rules)

pub returns : goal.returns
returns c =
    eight_shared c.check-whole.ensures c.share-numbers.ensures (c.clear.ensures ∙ ap zeros c.share-numbers.auto.work)
