-- `site_second::call::write` meets its contract. Assumes nothing.
use borrow.Author.Rules.{rules}
use mathlib.Core.Path.{sym, ◌∙◌}
use lib.ListN.{drop}
use Rattle.files.specs.Word.{words}
use Rattle.files.specs.Groups.{loaded}
use Rattle.files.proofs.Groups.{loaded_head}
use Rattle.expressions.specs.Labels.{expr_of}
use Rattle.site_second.proofs.Replying.{reply_filed}
use Rattle.site_second.proofs.call.write.Goals as goal

pub returns : goal.returns
returns c =
    let args = c.args in
    let path = loaded (words args.groups.now) (words args.path.now) in
    reply_filed _ path (words args.calls.now) _ c.close.ensures c.write_answers-count.ensures
    (c.search.ensures (expr_of (drop 1 path)) c.position_automaton-a.ensures) c.site-s.ensures c.word_at.ensures c.labels-n.ensures
    (c.word_at-2.ensures ∙ sym (loaded_head (words args.groups.now) (words args.path.now))) c.clear.ensures (search rules)
