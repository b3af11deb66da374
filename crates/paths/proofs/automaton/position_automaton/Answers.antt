-- `automaton::position_automaton` meets its contract. Assumes nothing.
use borrow.Author.Rules.{rules}
use Rattle.files.specs.Word.{words}
use Rattle.groups.proofs.Grouping.{value_ranges}
use Rattle.paths.proofs.Words.{reading_first, reading_right, reading_applicable, reading_more, reading_last, by_value}
use Rattle.paths.proofs.automaton.position_automaton.Goals as goal

pub loop-w-init : goal.loop-w-init
loop-w-init c = search (reading_first, value_ranges, rules)

pub step-b-requires : goal.step-b-requires
step-b-requires c =
    let h = c.in-Some.ensures.steps in
    record { ranges = (c.loop-w.invariant.ranges, reading_right c.loop-w.invariant h); applicable = reading_applicable c.loop-w.invariant h }

pub loop-w-preserved : goal.loop-w-preserved
loop-w-preserved c = reading_more c.loop-w.invariant c.in-Some.ensures.steps c.step-b.ensures

pub returns : goal.returns
returns c = by_value _ (words c.args.path.now) c.read_groups-g.ensures (reading_last c.loop-w.invariant c.in-None.ensures.steps.0 c.finish.ensures)
