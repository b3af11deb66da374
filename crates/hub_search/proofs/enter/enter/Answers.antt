-- `hub_search::enter::enter` meets its contract.
-- Assumes nothing.
use mathlib.Core.Path.{sym, ◌∙◌}
use Rattle.files.specs.Word.{words}
use Rattle.sets.proofs.Cases.{and_intro}
use Rattle.hub_search.proofs.Entries.{behind, enter_known, gained_roomy, gained_waiting, enter_plain, enter_waits}
use Rattle.hub_search.proofs.enter.enter.Goals as goal

pub returns-then-has : goal.returns-then-has
returns-then-has c =
    record { entered = enter_known _ _ _ _ _ c.requires.roomy.1 c.get16-r.ensures c.has.ensures c.if-has.true; still_waiting = c.requires.waiting }

pub wait-requires : goal.wait-requires
wait-requires c =
    rw c.put16.ensures record {
      roomy = (
        gained_roomy _ _ _ c.args.j c.args.q c.args.top c.requires.roomy.0 c.requires.roomy.1 c.requires.waiting _ _ c.get16-r.ensures (sym c.has.ensures ∙ c.if-has.false) c.with.ensures,
        and_intro _ _ c.requires.roomy.1 (behind (words c.args.bundle.now) c.args.j c.word_at.ensures c.in_rows.ensures c.if-in_rows.true),
        c.requires.roomy.2,
      );
      waiting = gained_waiting _ _ _ c.args.j c.args.q c.args.top c.requires.roomy.0 c.requires.roomy.1 c.requires.waiting _ _ c.get16-r.ensures (sym c.has.ensures ∙ c.if-has.false) c.with.ensures;
    }

pub returns-then-in_rows : goal.returns-then-in_rows
returns-then-in_rows c = record {
  entered = enter_waits _ _ _ c.args.j c.args.q c.args.top c.requires.roomy.0 c.requires.roomy.1 c.requires.waiting _ _ c.get16-r.ensures (sym c.has.ensures ∙ c.if-has.false) c.with.ensures _
      (behind (words c.args.bundle.now) c.args.j c.word_at.ensures c.in_rows.ensures c.if-in_rows.true) (rw c.put16.ensures at c.wait.ensures.waits);
  still_waiting = c.wait.ensures.still_waiting;
}

pub returns : goal.returns
returns c =
    rw c.put16.ensures record { entered = enter_plain _ _ _ c.args.j c.args.q c.args.top c.requires.roomy.0 c.requires.roomy.1 c.requires.waiting _ _ c.get16-r.ensures (sym c.has.ensures ∙ c.if-has.false) c.with.ensures (behind (words c.args.bundle.now) c.args.j c.word_at.ensures c.in_rows.ensures c.if-in_rows.false); still_waiting = gained_waiting _ _ _ c.args.j c.args.q c.args.top c.requires.roomy.0 c.requires.roomy.1 c.requires.waiting _ _ c.get16-r.ensures (sym c.has.ensures ∙ c.if-has.false) c.with.ensures }
