-- `kinds::find::find_kind` meets its contract. Assumes nothing.
use borrow.Author.Rules.{rules}
use Rattle.files.proofs.Words.{words_length}
use Rattle.kinds.proofs.Seeking.{none_first, none_more, first_found, first_none}
use Rattle.kinds.proofs.find.find_kind.Goals as goal

pub loop-i-init : goal.loop-i-init
loop-i-init c = search (none_first, rules)

pub returns-then-is_of_kind : goal.returns-then-is_of_kind
returns-then-is_of_kind c = search (first_found, rules)

pub loop-i-preserved : goal.loop-i-preserved
loop-i-preserved c = search (none_more, words_length, rules)

pub returns : goal.returns
returns c = search (first_none, words_length, rules)
