use Rattle.std.proofs.Common.{◌≡◌, ◌++◌, sym, subst, List}
use Rattle.dg_keys.specs.declared.record.Part.{Part}
use Rattle.dg_graph.specs.Graphs.{after_changes, IsLawful}
use Rattle.dg_zero.specs.Listings.{AreGainsAndLosses}
use Rattle.dg_edges.specs.Deltas.{AreFitting}
use Rattle.dg_edges.proofs.ListLaws.{ok_with}
use Rattle.dg_edges.proofs.OfferLaws.{lawful_goal}
use Rattle.dg_txn.specs.Own.{Transaction, graph, AreOwn}
use Rattle.dg_txn.specs.Gains.{parts_after}
use Rattle.dg_txn.proofs.OwnSteps.{own_after}
use Rattle.dg_txn.proofs.reads.stepped.Goals as goal

pub deltas_of-requires-clause-lawful : goal.deltas_of-requires-clause-lawful
deltas_of-requires-clause-lawful g c =
    subst (λ (t : Transaction). IsLawful t.schema (graph t)) c.txn.view_is (lawful_goal c.txn.inside.base.schema c.txn.inside.base.graph c.txn.inside.own.items c.txn.invariant.fitting c.txn.invariant.lawful)

pub returns : goal.returns
returns g c =
    let schema = c.txn.inside.base.schema in
    let base = c.txn.inside.base.graph in
    let own = c.txn.inside.own.items in
    let gains = c.txn.inside.gains in
    let more = c.args.changes.now in
    let fitting : AreFitting schema more = subst (λ (t : Transaction). AreFitting t.schema more) (sym c.txn.view_is) c.requires.fitting in
    let exact : AreGainsAndLosses schema (after_changes schema base own) schema (after_changes schema (after_changes schema base own) more) c.in_ok-step.step.items = subst (λ (t : Transaction). AreGainsAndLosses t.schema (graph t) t.schema (after_changes t.schema (graph t) more) c.in_ok-step.step.items) (sym c.txn.view_is) c.in_ok-step.ensures.exact in
    let step : c.in_ok-step.step.items ≡ c.as_slice.result.now = sym c.as_slice.ensures.value in
    let same : AreOwn c.args.txn.now.schema c.args.txn.now.base (c.args.txn.now.own ++ more) (parts_after gains c.as_slice.result.now) = subst (λ (t : Transaction). AreOwn t.schema t.base (t.own ++ more) (parts_after gains c.as_slice.result.now)) c.txn.view_is (subst (λ (ps : List Part). AreOwn schema base (own ++ more) (parts_after gains ps)) step (own_after schema base own more gains c.in_ok-step.step.items c.txn.invariant fitting exact)) in
    ok_with c.after.result (λ (ps : List Part). ps ≡ parts_after gains c.as_slice.result.now) (AreOwn c.args.txn.now.schema c.args.txn.now.base (c.args.txn.now.own ++ more)) (λ ps e. subst (AreOwn c.args.txn.now.schema c.args.txn.now.base (c.args.txn.now.own ++ more)) (sym e) same) c.after.ensures
