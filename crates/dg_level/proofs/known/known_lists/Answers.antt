use Rattle.std.proofs.Common.{◌∙◌}
use Rattle.dg_level.proofs.known.known_lists.Goals as goal

pub returns-in-Nodes : goal.returns-in-Nodes
returns-in-Nodes c = λ list knows. c.lists_among.ensures list (c.as_slice.ensures ∙ knows _ _ _ _ c.in-Nodes.is)
