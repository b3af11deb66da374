-- `to_triples::say::check_said` meets its contract. Assumes nothing.
use lib.ListN.{length}
use Rattle.files.specs.Word.{words}
use Rattle.to_triples.proofs.Saying.{said_checked}
use Rattle.to_triples.proofs.say.check_said.Goals as goal

pub returns : goal.returns
returns c =
    said_checked (words c.args.whole.now) _ (length c.args.work.now) c.requires.2 c.clear.ensures c.mark_kind.ensures c.has_unsaid-unsaid.ensures c.ensure.ensures
