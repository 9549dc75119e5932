use Rattle.dg_node.proofs.Unseen.{none_unseen}
use Rattle.dg_node.proofs.laws.none_unseen.Goals as goal

pub returns : goal.returns
returns c = none_unseen
