use Rattle.dg_node.proofs.Completeness.{complete}
use Rattle.dg_node.proofs.laws.frames_are_answered.Goals as goal

pub returns : goal.returns
returns c = complete
