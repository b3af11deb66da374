-- `call::show` meets its contract. Assumes nothing.
use lib.ListN.{length, drop}
use Rattle.files.specs.Word.{words}
use Rattle.files.specs.Groups.{loaded}
use Rattle.expressions.specs.Labels.{expr_of}
use Rattle.walk_find.proofs.Answering.{answers_20, answers_filed}
use Rattle.walk_find.proofs.call.show.Goals as goal

pub returns-in-Some : goal.returns-in-Some
returns-in-Some c =
    let args = c.args in
    let path = loaded (words args.groups.now) (words args.path.now) in
    answers_filed (length args.out.now) (length args.work.now) args.whole.now args.groups.now args.path.now args.node c.requires
    (c.in-Some.ensures.measured path c.position_automaton-automaton.ensures)
    (rw c.find.auto.out at (c.write.ensures (expr_of (drop 1 path)) c.position_automaton-automaton.ensures))

pub returns-in-None : goal.returns-in-None
returns-in-None c =
    let args = c.args in
    answers_20 (length args.out.now) (length args.work.now) args.whole.now args.groups.now args.path.now args.node c.requires
    (c.in-None.ensures.measured (loaded (words args.groups.now) (words args.path.now)) c.position_automaton-automaton.ensures) _
