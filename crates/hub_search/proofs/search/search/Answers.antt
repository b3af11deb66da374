-- `hub_search::search::search` meets its contract.
-- Assumes nothing.
use borrow.Author.Rules.{rules}
use native.Mathlib.Omega.{arith}
use native.Mathlib.Numerals.{add-one}
use Rattle.files.specs.Word.{words}
use Rattle.hub_search.proofs.Turning.{none_reached, none_waiting, running_first, top_room, rest_waiting, turn_ready, running_stray, running_turn, running_less, running_last}
use Rattle.hub_search.proofs.search.search.Goals as goal

pub seed-top-requires : goal.seed-top-requires
seed-top-requires c =
    record { roomy = (c.requires.indexed.1, none_waiting (words c.args.bundle.now) _ c.requires.indexed.1.few c.requires.table_clear _); doors_once = c.requires.doors_once }

pub loop-top-init : goal.loop-top-init
loop-top-init c =
    running_first _ _ c.requires.indexed.0 c.requires.indexed.1 c.requires.table_clear c.seed-top.ensures.pairs_entered c.seed-top.ensures.waiting

pub overflow_add-doors : goal.overflow_add-doors
overflow_add-doors c = omega (arith, top_room c.loop-top.invariant c.loop-top-test.true)

pub get16-i-requires : goal.get16-i-requires
get16-i-requires c =
    let inv = c.loop-top.invariant in
    omega (arith, top_room inv c.loop-top-test.true, inv.roomy.long)

pub follow_rows-requires : goal.follow_rows-requires
follow_rows-requires c =
    let inv = c.loop-top.invariant in
    let pos = c.loop-top-test.true in
    let s = rw (add-one c.get16-i.result) at c.get16-s.ensures in
    rw (c.put16.ensures, add-one c.get16-i.result) record { indexed = turn_ready inv pos c.get16-i.ensures s; waiting = rest_waiting inv pos c.get16-i.ensures s }

pub returns-in-None : goal.returns-in-None
returns-in-None c =
    let s = rw (add-one c.get16-i.result) at c.get16-s.ensures in
    running_stray c.loop-top.invariant c.loop-top-test.true c.get16-i.ensures s (none_reached (words c.args.bundle.now) _ c.requires.indexed.1.few c.requires.table_clear)
    c.seed-top.ensures.pairs_entered c.in-None.ensures

pub loop-top-smaller : goal.loop-top-smaller
loop-top-smaller c =
    let s = rw (add-one c.get16-i.result) at c.get16-s.ensures in
    let followed = rw (c.put16.ensures, add-one c.get16-i.result) at c.in-Some.ensures in
    running_less c.loop-top.invariant c.loop-top-test.true c.get16-i.ensures s (search rules) followed

pub loop-top-preserved : goal.loop-top-preserved
loop-top-preserved c =
    let s = rw (add-one c.get16-i.result) at c.get16-s.ensures in
    let followed = rw (c.put16.ensures, add-one c.get16-i.result) at c.in-Some.ensures in
    running_turn c.loop-top.invariant c.loop-top-test.true c.get16-i.ensures s (search rules) followed

pub returns : goal.returns
returns c =
    running_last c.loop-top.invariant (none_reached (words c.args.bundle.now) _ c.requires.indexed.1.few c.requires.table_clear) c.seed-top.ensures.pairs_entered
    (omega (arith, c.loop-top-test.false))
