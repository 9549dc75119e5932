use Rattle.std.proofs.Common.{◌≡◌, subst}
use Rattle.std.specs.Prelude.{IfOk}
use Rattle.dg_graph.specs.Lookups.{holders}
use Rattle.dg_txn.specs.Own.{graph, Transaction}
use Rattle.dg_txn.proofs.txn.TxnSnapshot.holders.Goals as goal

pub returns-clause-nodes : goal.returns-clause-nodes
returns-clause-nodes g c = subst (λ (t : Transaction). IfOk c.holders.result (λ uids. uids ≡ holders (graph t) c.args.p.now)) c.self.view_is (c.holders.ensures.nodes c.self.inside.own.items c.self.invariant)
