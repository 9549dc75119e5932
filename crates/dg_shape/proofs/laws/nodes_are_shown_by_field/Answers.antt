use Rattle.dg_shape.proofs.WholeLaws.{shown_by_field}
use Rattle.dg_shape.proofs.laws.nodes_are_shown_by_field.Goals as goal

pub returns : goal.returns
returns c = shown_by_field
