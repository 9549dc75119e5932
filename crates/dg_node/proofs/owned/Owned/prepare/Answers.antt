use Rattle.std.proofs.Common.{◌≡◌, [], Some, None, ap, sym, subst, ◌∙◌}
use Rattle.dg_zero.specs.Counters.{active}
use Rattle.dg_zero.specs.Places.{tablets}
use Rattle.dg_zero.specs.States.{Zero, first_held}
use Rattle.dg_zero.specs.Worlds.{World, schema, world}
use Rattle.dg_node.specs.Alters.{first_with_data}
use Rattle.dg_node.proofs.AlterLemmas.{held_nowhere}
use Rattle.dg_node.proofs.owned.Owned.prepare.Goals as goal

pub returns-in-Some-2-clause-fault : goal.returns-in-Some-2-clause-fault
returns-in-Some-2-clause-fault c =
    let z = c.self.inside.zero in
    let h = c.args.self.now.history in
    let newer = c.args.newer.now in
    let none : active h ≡ [] = subst (λ (y : Zero). active y.history ≡ []) c.self.view_is c.in_default.ensures.none in
    let held : first_held (tablets h) newer ≡ None = subst (λ (y : Zero). first_held (tablets y.history) newer ≡ None) c.self.view_is (held_nowhere (tablets z.history) newer c.self.invariant.idle) in
    let found : first_with_data (schema h) (world h).graph newer ≡ Some c.in-Some-2.pred =
    ap (first_with_data (schema h) (world h).graph) (sym c.definitions.ensures.items) ∙ (ap (λ (w : World). first_with_data w.schema w.graph c.definitions.result.now) (sym c.in_ok-present.ensures.present) ∙ (sym c.in_ok-pred.ensures ∙ c.in-Some-2.is)) in
    (none, held, found)
