-- `walk_choice::choosing::Rows::opens` meets its contract. Assumes nothing.
use borrow.Author.Rules.{rules}
use mathlib.Core.Path.{refl}
use Rattle.walk_choice.proofs.Picking.{opens_row, opens_none, opens_some}
use Rattle.walk_choice.proofs.choosing.Rows.opens.Goals as goal

pub returns-then-m-eq0 : goal.returns-then-m-eq0
returns-then-m-eq0 c = λ e h s f. opens_none _ _ _ _ c.requires.linked.accepted (c.requires.linked.edged _ c.requires.edge.0) _ e h s f _ _ c.get16.ensures c.if-m-eq0.true

pub having-requires : goal.having-requires
having-requires c = (opens_row _ _ _ _ (c.requires.linked.edged _ c.requires.edge.0) c.requires.linked.few c.get16-t.ensures, search rules)

pub returns : goal.returns
returns c = λ e h s f. opens_some _ _ _ _ c.requires.linked.accepted (c.requires.linked.edged _ c.requires.edge.0) _ e h s f _ _ _ _ c.get16.ensures
    c.get16-t.ensures (search rules) c.having.ensures refl
