use Rattle.std.proofs.Common.{◌≡◌, true, sym, subst}
use Rattle.std.specs.Prelude.{IfOk}
use Rattle.dg_graph.specs.Lookups.{has_numbers, by_count}
use Rattle.dg_txn.specs.Own.{graph, Transaction}
use Rattle.dg_txn.proofs.txn.TxnSnapshot.by_count.Goals as goal

pub by_count-requires : goal.by_count-requires
by_count-requires g c = record { numbers = subst (λ (t : Transaction). has_numbers t.schema c.args.p.now c.args.reverse ≡ true) (sym c.self.view_is) c.requires.numbers }

pub returns-clause-nodes : goal.returns-clause-nodes
returns-clause-nodes g c = subst (λ (t : Transaction). IfOk c.by_count.result (λ uids. uids ≡ by_count (graph t) c.args.p.now c.args.reverse c.args.low c.args.high)) c.self.view_is (c.by_count.ensures.nodes c.self.inside.own.items c.self.invariant)
