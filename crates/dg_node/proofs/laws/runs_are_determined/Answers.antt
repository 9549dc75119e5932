use Rattle.dg_node.proofs.StepLemmas.{determined}
use Rattle.dg_node.proofs.laws.runs_are_determined.Goals as goal

pub returns : goal.returns
returns c = determined
