use Rattle.std.proofs.Common.{◌≡◌, true, sym, subst}
use Rattle.std.specs.Prelude.{IfOk}
use Rattle.dg_values.specs.declared.value.Posting.TheVariants.{Uid}
use Rattle.dg_graph.specs.Lookups.{has_reverse, subjects_of}
use Rattle.dg_txn.specs.Own.{graph, Transaction}
use Rattle.dg_txn.proofs.txn.TxnSnapshot.subjects.Goals as goal

pub subjects-requires : goal.subjects-requires
subjects-requires g c = record { reverse = subst (λ (t : Transaction). has_reverse t.schema c.args.p.now ≡ true) (sym c.self.view_is) c.requires.reverse }

pub returns-clause-nodes : goal.returns-clause-nodes
returns-clause-nodes g c = subst (λ (t : Transaction). IfOk c.subjects.result (λ uids. uids ≡ subjects_of (graph t) c.args.p.now (Uid c.args.o))) c.self.view_is (c.subjects.ensures.nodes c.self.inside.own.items c.self.invariant)
