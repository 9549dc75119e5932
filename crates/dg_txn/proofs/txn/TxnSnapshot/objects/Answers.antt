use Rattle.std.proofs.Common.{◌≡◌, ◌∙◌, ap, subst, List, ℕ}
use Rattle.std.specs.Prelude.{IfOk}
use Rattle.dg_values.specs.declared.value.Posting.{Posting}
use Rattle.dg_graph.specs.Graphs.{objects, after_changes}
use Rattle.dg_keys.specs.declared.key.Key.TheVariants.{Data}
use Rattle.dg_txn.specs.Own.{graph, seen, Transaction}
use Rattle.dg_txn.proofs.PinLaws.{own_objects}
use Rattle.dg_txn.proofs.txn.TxnSnapshot.objects.Goals as goal

pub returns-clause-items : goal.returns-clause-items
returns-clause-items g c =
    let schema = c.self.inside.base.schema in
    let base = c.self.inside.base.graph in
    let own = c.self.inside.own.items in
    let parts = c.self.inside.gains in
    let is : seen schema base parts (Data c.in_ok-p.p c.args.s) ≡ objects (graph c.args.self.now) c.args.p.now c.args.s =
    own_objects schema base own parts c.in_ok-p.p c.args.s c.self.invariant
    ∙ (ap (λ (p : List ℕ). objects (after_changes schema base own) p c.args.s) c.in_ok-p.ensures
    ∙ ap (λ (t : Transaction). objects (graph t) c.args.p.now c.args.s) c.self.view_is) in
    subst (λ (x : List Posting). IfOk c.read_over.result (λ v. v.items ≡ x)) is c.read_over.ensures.list
