-- `eight_replies::rounds::share` meets its contract. Assumes nothing.
use borrow.Author.Rules.{rules}
use mathlib.Core.Path.{◌∙◌, sym}
use lib.ListN.{length}
use Rattle.files.proofs.Buffers.{zeros_all}
use Rattle.eight_replies.proofs.Laying.{same_asking, same_stood, same_shares}
use Rattle.eight_replies.proofs.rounds.share.Goals as goal

pub lay_all-laid-requires : goal.lay_all-laid-requires
lay_all-laid-requires g c =
    (same_asking c.requires (search rules) (search rules), zeros_all (length c.args.out.now) c.clear.ensures)

pub choose_rest-requires : goal.choose_rest-requires
choose_rest-requires g c =
    (same_asking c.requires (c.lay_all-laid.auto.out ∙ c.clear.auto.buf) c.lay_all-laid.auto.work, same_stood c.lay_all-laid.ensures c.lay_all-laid.auto.out)

pub returns : goal.returns
returns g c =
    same_shares c.choose_rest.ensures (sym (c.lay_all-laid.auto.out ∙ c.clear.auto.buf))
