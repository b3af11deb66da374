-- `links::Asked::link_edge` meets its contract. Assumes nothing.
use Rattle.files.specs.Word.{words}
use Rattle.walk_links.proofs.Linking.{linking_edge}
use Rattle.walk_links.proofs.links.Asked.link_edge.Goals as goal

pub returns : goal.returns
returns c =
    linking_edge (words c.args.self.now.whole.now) c.args.self.now.automaton c.args.work.now c.args.out.now c.args.x c.target_position-t.result c.entry_mask-m.result
    c.requires.0 c.requires.1 c.requires.2 c.target_position-t.ensures.0 c.target_position-t.ensures.1 c.entry_mask-m.ensures c.get16-last.result
    c.put16.new.work c.put16-2.new.work c.put16-3.new.work c.put16-4.new.work c.get16-last.ensures c.put16.ensures c.put16-2.ensures
    c.put16-3.ensures c.put16-4.ensures
