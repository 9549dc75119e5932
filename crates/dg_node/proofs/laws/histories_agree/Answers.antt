use Rattle.dg_node.proofs.Leading.{histories_agree}
use Rattle.dg_node.proofs.laws.histories_agree.Goals as goal

pub returns : goal.returns
returns c = histories_agree
