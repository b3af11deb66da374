-- `rounds::visit` meets its contract. The invariant: the edge words into the node behind x are handled, and x is the next of them or 0. Assumes nothing.
use Rattle.walk_distances.proofs.Chaining.{visiting_first, visiting_ready, visiting_known, visiting_next, visiting_less, visiting_last}
use Rattle.walk_distances.proofs.rounds.visit.Goals as goal

pub loop-x-init : goal.loop-x-init
loop-x-init c = visiting_first c.requires.numbering.ready c.requires.numbering.list c.requires.node c.get16-x.ensures c.requires.numbering.waiting

pub follow_back-top-requires : goal.follow_back-top-requires
follow_back-top-requires c =
    let g = c.requires.numbering in
    record {
      numbering = record {
        ready = visiting_ready g.ready g.list c.requires.node c.loop-x.invariant;
        list = g.list;
        waiting = c.loop-x.invariant.waiting;
        big = g.big;
      };
      edge = (
        (c.loop-x.invariant.next c.loop-x-test.true).0,
        visiting_known g.ready g.list c.requires.node c.loop-x.invariant c.having-f.result c.having-f.ensures g.big c.loop-x-test.true,
      );
    }

pub loop-x-smaller : goal.loop-x-smaller
loop-x-smaller c =
    let handled = c.follow_back-top.ensures in
    visiting_less c.requires.numbering.ready c.requires.numbering.list c.requires.node c.loop-x.invariant c.loop-x-test.true handled.turns handled.written
    c.get16-x-in-loop-x.ensures

pub loop-x-preserved : goal.loop-x-preserved
loop-x-preserved c =
    let handled = c.follow_back-top.ensures in
    visiting_next c.requires.numbering.ready c.requires.numbering.list c.requires.node c.loop-x.invariant c.loop-x-test.true handled.turns handled.written
    c.get16-x-in-loop-x.ensures handled.waiting

pub returns : goal.returns
returns c = record {
  turns = visiting_last c.requires.numbering.ready c.requires.numbering.list c.requires.node c.loop-x.invariant c.loop-x-test.false;
  written = c.loop-x.invariant.written;
  waiting = c.loop-x.invariant.waiting;
}
