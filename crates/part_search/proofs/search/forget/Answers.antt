-- `search::forget` meets its contract: a node word has marks in two tables, an edge word in one. Assumes nothing.
use mathlib.Core.Path.{sym, ◌∙◌}
use Rattle.part_search.proofs.Seeding.{forgot_node, forgot_edge}
use Rattle.part_search.proofs.search.forget.Goals as goal

pub returns-then-is_node : goal.returns-then-is_node
returns-then-is_node c =
    rw (c.put16-then-is_node.ensures, c.put16.ensures) (forgot_node _ _ _ c.requires.0 c.requires.1 c.requires.2 (sym c.is_node.ensures ∙ c.if-is_node.true))

pub returns-else-is_node : goal.returns-else-is_node
returns-else-is_node c =
    rw c.put16.ensures (forgot_edge _ _ _ c.requires.0 c.requires.1 c.requires.2 (sym c.is_node.ensures ∙ c.if-is_node.false))
