-- `rounds::measure` meets its contract: the first table is that of no round, and the first list has the node where it has a number. Assumes nothing.
use Rattle.slots.specs.Slots.{number}
use Rattle.files.specs.Word.{words}
use Rattle.walk_distances.proofs.Measuring.{first_ready, first_waiting, first_round}
use Rattle.walk_distances.proofs.rounds.measure.Goals as goal

pub rounds-requires : goal.rounds-requires
rounds-requires c =
    let ready = c.requires.ready.0 in
    let blank = c.requires.ready.1 in
    let node = c.requires.nodes.0 in
    let new = c.spread-new.ensures in
    let listed = c.note-height.ensures in
    record {
      ready = (first_ready ready blank node new.hit new.tells listed.0 listed.1, c.requires.nodes.1, c.requires.ready.2);
      first_round = (number (words c.args.asked.now.whole.now) c.args.i, first_round ready blank node new.hit new.tells listed.0 listed.1);
      waiting = first_waiting ready blank node new.hit new.tells listed.0 listed.1;
    }

pub returns : goal.returns
returns c =
    let new = c.spread-new.ensures in
    let listed = c.note-height.ensures in
    record {
      reached = λ e k. c.rounds.ensures.reached (number (words c.args.asked.now.whole.now) c.args.i) e k
          (first_round c.requires.ready.0 c.requires.ready.1 c.requires.nodes.0 new.hit new.tells listed.0 listed.1 e k);
      edged = c.rounds.ensures.edged;
    }
