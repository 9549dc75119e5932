use Rattle.dg_node.proofs.RivalSteps.{later_began}
use Rattle.dg_node.proofs.laws.later_began.Goals as goal

pub returns : goal.returns
returns c = later_began
