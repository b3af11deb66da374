-- `links::Asked::target_position` meets its contract: the target has a position, since the file is whole. Assumes nothing.
use Rattle.files.specs.Word.{words}
use Rattle.files.proofs.Parts.{whole_part}
use Rattle.walk_links.proofs.Linking.{target_found}
use Rattle.walk_links.proofs.links.Asked.target_position.Goals as goal

pub node_position-requires : goal.node_position-requires
node_position-requires c = (whole_part (words c.args.self.now.whole.now) c.requires.0, c.requires.1, c.requires.2)

pub returns-in-None : goal.returns-in-None
returns-in-None c =
    absurd (target_found (words c.args.self.now.whole.now) c.requires.0 c.args.x c.requires.3 (rw c.number_at.ensures at c.in-None.ensures))
