use Rattle.dg_shape.proofs.WholeLaws.{cut_by_field}
use Rattle.dg_shape.proofs.laws.nodes_are_cut_by_field.Goals as goal

pub returns : goal.returns
returns c = cut_by_field
