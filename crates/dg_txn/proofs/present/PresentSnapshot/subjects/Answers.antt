use Rattle.std.proofs.Common.{[]}
use Rattle.dg_txn.proofs.present.PresentSnapshot.subjects.Goals as goal

pub returns-clause-nodes : goal.returns-clause-nodes
returns-clause-nodes g c = c.subjects.ensures.nodes [] c.in_ok-gains.ensures
