use Rattle.dg_edges.proofs.ExactHistories.{histories_are_exact}
use Rattle.dg_edges.proofs.laws.exact_histories.Goals as goal

pub returns : goal.returns
returns c = histories_are_exact
