-- `automaton::finish` meets its contract. Assumes nothing.
use borrow.Author.Rules.{rules}
use Rattle.paths.proofs.Automata.{finish_is}
use Rattle.paths.proofs.automaton.finish.Goals as goal

pub returns : goal.returns
returns c = search (finish_is, rules)
