-- `links::Asked::link` meets its contract. The invariant: the edge words before x have their rows. Assumes nothing.
use mathlib.Core.Path.{◌≡◌}
use native.Mathlib.Omega.{arith}
use lib.ListN.{length}
use Rattle.files.specs.Word.{words}
use Rattle.files.proofs.Words.{words_length}
use Rattle.files.proofs.Parts.{whole_part}
use Rattle.walk_links.specs.Tables.{Measurable}
use Rattle.walk_links.proofs.Linking.{linking_none, linked_rows, linked_heads}
use Rattle.walk_links.proofs.links.Asked.link.Goals.{At-loop-x}
use Rattle.walk_links.proofs.links.Asked.link.Goals as goal

measurable : (h : At-loop-x)
    → Measurable (words h.args.self.now.whole.now) h.loop-x.work h.loop-x.out
measurable h =
    record {
      accepted = h.requires.accepted;
      few = h.requires.few;
      works = omega (arith, h.requires.works, h.loop-x.auto.work, h.clear.auto.buf);
      holds = omega (arith, h.requires.holds, h.loop-x.auto.out, h.own.auto.work, h.clear-2.auto.buf);
    }

pub own-requires : goal.own-requires
own-requires c = (
  whole_part (words c.args.self.now.whole.now) c.requires.accepted,
  omega (arith, c.requires.few),
  omega (arith, c.requires.holds, c.clear-2.auto.buf),
)

-- no edge word has a row
pub loop-x-init : goal.loop-x-init
loop-x-init c =
    linking_none (words c.args.self.now.whole.now) c.args.self.now.automaton (length c.args.work.now) (length c.args.out.now) c.clear.new.buf c.clear-2.new.buf
    c.own.new.work c.requires.few c.clear.ensures c.clear-2.ensures c.own.ensures.owned c.own.ensures.owners_only

pub link_at-requires : goal.link_at-requires
link_at-requires c =
    (measurable (goal.at.link_at-requires c).At-loop-x, c.loop-x.invariant, omega (arith, words_length c.args.self.now.whole.now, c.loop-x-test.true))

pub returns : goal.returns
returns c =
    let e : c.loop-x.x ≡ length (words c.args.self.now.whole.now) = omega (arith, words_length c.args.self.now.whole.now, c.loop-x-test.false) in
    (linked_rows c.loop-x.invariant e, linked_heads c.loop-x.invariant e, c.loop-x.invariant.blank)
