use Rattle.std.proofs.Common.{◌≡◌, true, sym, subst}
use Rattle.std.specs.Prelude.{IfOk, option_copied}
use Rattle.dg_graph.specs.Lookups.{is_indexed_by, by_token_range}
use Rattle.dg_txn.specs.Own.{graph, Transaction}
use Rattle.dg_txn.proofs.txn.TxnSnapshot.by_token_range.Goals as goal

pub by_token_range-requires : goal.by_token_range-requires
by_token_range-requires g c = record { tokenizer = subst (λ (t : Transaction). is_indexed_by t.schema c.args.p.now c.args.tokenizer ≡ true) (sym c.self.view_is) c.requires.tokenizer }

pub returns-clause-nodes : goal.returns-clause-nodes
returns-clause-nodes g c = subst (λ (t : Transaction). IfOk c.by_token_range.result (λ uids. uids ≡ by_token_range (graph t) c.args.p.now c.args.tokenizer (option_copied c.args.low) (option_copied c.args.high))) c.self.view_is (c.by_token_range.ensures.nodes c.self.inside.own.items c.self.invariant)
