-- `from_triples::call::prepare` meets its contract. Assumes nothing.
use borrow.Author.Rules.{rules}
use native.Mathlib.Omega.{arith}
use lib.ListN.{length}
use Rattle.files.specs.Word.{words}
use Rattle.from_triples.proofs.Filing.{ends_fit, prepared}
use Rattle.from_triples.proofs.call.prepare.Goals as goal

pub add_all-requires : goal.add_all-requires
add_all-requires c =
    let count = c.count_triples-n.ensures in
    (search rules, omega (arith, count, c.requires.1), λ i l. ends_fit (words c.args.triples.now) c.requires.2 i (rw count at l))

pub returns : goal.returns
returns c =
    prepared (words c.args.triples.now) (length c.args.work.now) c.requires.2 c.word_at.ensures c.count_triples-n.ensures c.clear.ensures
    c.add.ensures c.add_all.ensures c.build.ensures (search rules)
