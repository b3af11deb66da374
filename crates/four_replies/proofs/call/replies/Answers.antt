-- `four_replies::call::replies` meets its contract. Assumes nothing.
use borrow.Author.Rules.{rules}
use native.Mathlib.Omega.{arith}
use mathlib.Core.Path.{refl}
use Rattle.sets.specs.Sets.{here, there}
use Rattle.four_replies.proofs.Visits.{path_ready, path_small, visited}
use Rattle.four_replies.proofs.call.replies.Goals as goal

pub reply-a-requires : goal.reply-a-requires
reply-a-requires g c =
    path_ready c.requires (here refl) (search rules)

pub reply-b-requires : goal.reply-b-requires
reply-b-requires g c =
    path_ready c.requires (there (here refl)) (search rules)

pub reply-c-requires : goal.reply-c-requires
reply-c-requires g c =
    path_ready c.requires (there (there (here refl))) (search rules)

pub reply-d-requires : goal.reply-d-requires
reply-d-requires g c =
    path_ready c.requires (there (there (there (here refl)))) (search rules)

pub pack-requires : goal.pack-requires
pack-requires g c =
    let p = path_small c.requires c.reply-a.ensures in
    let q = path_small c.requires c.reply-b.ensures in
    let r = path_small c.requires c.reply-c.ensures in
    let s = path_small c.requires c.reply-d.ensures in
    (omega (arith, p, q, r, s), omega (arith, p, q, r, s), omega (arith, p, q, r, s), omega (arith, p, q, r, s))

pub returns : goal.returns
returns g c =
    visited c.requires c.reply-a.ensures c.reply-b.ensures c.reply-c.ensures c.reply-d.ensures c.pack.ensures
