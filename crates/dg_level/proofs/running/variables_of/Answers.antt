use Rattle.std.proofs.Common.{◌≡◌, List, sym, ◌∙◌, subst}
use Rattle.std.specs.Prelude.{IfOk}
use Rattle.dg_check.specs.declared.vars.Variable.{Variable}
use Rattle.dg_check.specs.declared.vars.Vars.{Vars}
use Rattle.dg_funcs.specs.Laws.{AreOfKind}
use Rattle.dg_level.specs.Meaning.{defined_in, variables_of}
use Rattle.dg_level.specs.PlannedGiven.{planned_in_order}
use Rattle.dg_level.proofs.PlanRuns.{if_ok_so, found_by_plan, kinds_by_plan}
use Rattle.dg_level.proofs.running.variables_of.Goals as goal

pub returns-clause-known : goal.returns-clause-known
returns-clause-known g c = λ lawful.
    let schema = g.S.Snapshot.declared c.args.snap.now in
    let graph = g.S.Snapshot.graph c.args.snap.now in
    let plan = c.args.plan.now in
    let found : planned_in_order schema graph c.len-count.result c.as_slice-blocks.result.now c.as_slice-kept.result.now c.as_slice-order.result.now ≡ variables_of schema graph plan.query =
    (λ i. planned_in_order schema graph (c.len-count.ensures i) (c.as_slice-blocks.ensures i) (c.as_slice-kept.ensures i) (c.as_slice-order.ensures i))
    ∙ found_by_plan schema graph plan.query plan lawful c.requires.plan c.any_order_serves.ensures c.meanings.ensures.filters c.meanings.ensures.roots in
    subst (λ (all : List Variable). IfOk c.variables_in_order.result (λ vars. vars.variables ≡ all)) found (c.variables_in_order.ensures lawful)

pub returns-clause-kinds : goal.returns-clause-kinds
returns-clause-kinds g c = λ lawful.
    let schema = g.S.Snapshot.declared c.args.snap.now in
    let graph = g.S.Snapshot.graph c.args.snap.now in
    let plan = c.args.plan.now in
    if_ok_so (λ (vars : Vars). vars.variables ≡ variables_of schema graph plan.query) (λ (vars : Vars). AreOfKind (defined_in schema plan.query) vars.variables) (λ vars is. subst (AreOfKind (defined_in schema plan.query)) (sym is) (kinds_by_plan schema graph plan.query plan lawful c.requires.plan c.any_order_serves.ensures)) c.variables_in_order.result (returns-clause-known g c lawful)
