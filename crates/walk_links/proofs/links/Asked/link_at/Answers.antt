-- `links::Asked::link_at` meets its contract. Assumes nothing.
use mathlib.Core.Path.{sym, ◌∙◌}
use Rattle.walk_links.proofs.Linking.{linking_other}
use Rattle.walk_links.proofs.links.Asked.link_at.Goals as goal

pub returns-else-is_edge : goal.returns-else-is_edge
returns-else-is_edge c =
    linking_other c.requires.1 (sym c.is_edge.ensures ∙ c.if-is_edge.false)
