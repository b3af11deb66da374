-- `old::call::write` meets its contract. Assumes nothing.
use borrow.Author.Rules.{rules}
use lib.ListN.{drop}
use Rattle.files.specs.Word.{words}
use Rattle.files.specs.Groups.{loaded}
use Rattle.expressions.specs.Labels.{expr_of}
use Rattle.old.proofs.RootSearch.{list_filed}
use Rattle.old.proofs.call.write.Goals as goal

pub returns : goal.returns
returns c =
    let args = c.args in
    let path = loaded (words args.groups.now) (words args.path.now) in
    list_filed _ path _ c.close.ensures c.write_answers-count.ensures (c.search.ensures (expr_of (drop 1 path)) c.position_automaton-a.ensures)
    c.clear.ensures (search rules)
