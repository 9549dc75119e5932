use Rattle.std.proofs.Common.{◌≡◌, true, sym, subst}
use Rattle.std.specs.Prelude.{IfOk}
use Rattle.dg_graph.specs.Lookups.{is_indexed_by, subjects_where, has_token}
use Rattle.dg_txn.specs.Own.{graph, Transaction}
use Rattle.dg_txn.proofs.txn.TxnSnapshot.by_token.Goals as goal

pub by_token-requires : goal.by_token-requires
by_token-requires g c = record { tokenizer = subst (λ (t : Transaction). is_indexed_by t.schema c.args.p.now c.args.t.now.tokenizer ≡ true) (sym c.self.view_is) c.requires.tokenizer }

pub returns-clause-nodes : goal.returns-clause-nodes
returns-clause-nodes g c = subst (λ (t : Transaction). IfOk c.by_token.result (λ uids. uids ≡ subjects_where (has_token c.args.t.now) (graph t) c.args.p.now)) c.self.view_is (c.by_token.ensures.nodes c.self.inside.own.items c.self.invariant)
