use Rattle.std.proofs.Common.{[]}
use Rattle.dg_txn.proofs.present.PresentSnapshot.by_token_range.Goals as goal

pub returns-clause-nodes : goal.returns-clause-nodes
returns-clause-nodes g c = c.by_token_range.ensures.nodes [] c.in_ok-gains.ensures
