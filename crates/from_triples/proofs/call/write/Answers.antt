-- `from_triples::call::write` meets its contract. Assumes nothing.
use borrow.Author.Rules.{rules}
use lib.ListN.{length}
use Rattle.from_triples.proofs.Filing.{queue_front, from_filed}
use Rattle.from_triples.proofs.call.write.Goals as goal

pub write_nodes-count-requires : goal.write_nodes-count-requires
write_nodes-count-requires c =
    let ready = c.prepare-n.ensures in
    (ready.queues, queue_front c.requires.read.0.read ready, search rules)

pub returns : goal.returns
returns c =
    from_filed c.requires.read.0.read c.prepare-n.ensures (length c.args.out.now) c.word_at.ensures c.close.ensures c.write_nodes-count.ensures
    c.clear.ensures (search rules)
