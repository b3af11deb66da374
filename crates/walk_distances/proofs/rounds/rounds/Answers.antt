-- `rounds::rounds` meets its contract. The invariant: the rounds up to v are done, and the list has the nodes with the number v. Assumes nothing.
use Rattle.walk_distances.proofs.Measuring.{going_some, going_none, going_new, going_on, going_next}
use Rattle.walk_distances.proofs.rounds.rounds.Goals as goal

pub returns-then-r-ne0 : goal.returns-then-r-ne0
returns-then-r-ne0 c =
    record { reached = going_some c.rounds.invariant c.args.root c.requires.ready.1 c.get16-r.ensures c.if-r-ne0.true; edged = c.rounds.invariant.ready.edged }

pub returns-then-count-eq0 : goal.returns-then-count-eq0
returns-then-count-eq0 c =
    record { reached = going_none c.rounds.invariant c.args.root c.requires.ready.1 c.get16-r.ensures c.if-r-ne0.false c.if-count-eq0.true; edged = c.rounds.invariant.ready.edged }

pub round-count-requires : goal.round-count-requires
round-count-requires c = record {
  starting = going_on c.rounds.invariant;
  unnumbered = going_new c.rounds.invariant c.requires.ready.2 c.requires.first_round;
}

pub rounds-preserved : goal.rounds-preserved
rounds-preserved c =
    let done = c.round-count.ensures in
    rw (c.swap.ensures.x_after, c.swap.ensures.y_after)
    (going_next c.rounds.invariant c.requires.ready.2 c.requires.first_round c.if-count-eq0.false done.turned done.written done.waiting)
