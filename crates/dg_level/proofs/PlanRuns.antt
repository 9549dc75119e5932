-- The variables that a plan finds are those of the text.
use Rattle.std.proofs.Common.{◌≡◌, ℕ, List, [], length, ◌∙◌, subst}
use Rattle.std.specs.Prelude.{None, Result, Ok, Err, IfOk}
use Rattle.dg_schema.specs.declared.definition.PredDef.{PredDef}
use Rattle.dg_graph.specs.declared.change.Triple.{Triple}
use Rattle.dg_graph.specs.Graphs.{IsLawful}
use Rattle.dg_parse.specs.declared.query.Query.{Query}
use Rattle.dg_check.specs.declared.plan.Plan.{Plan}
use Rattle.dg_check.specs.Faults.{first_again}
use Rattle.dg_check.specs.Outcomes.{IsPlanOf}
use Rattle.dg_funcs.specs.Laws.{AreOfKind, FiltersMeanTheirTexts, RootsMeanTheirTexts}
use Rattle.dg_level.specs.Laws.{AnyOrderServes}
use Rattle.dg_level.specs.Meaning.{defined_in, variables_by, variables_of}
use Rattle.dg_level.specs.PlannedGiven.{planned_in_order}
use Rattle.dg_level.proofs.KindLaws.{plan_has_kinds, plan_is_run}

-- what follows of each value follows of a result
pub if_ok_so : {T E : Type 0} (P Q : T → Type 0) → ((x : T) → P x → Q x) → (r : Result T E) → IfOk r P → IfOk r Q
if_ok_so P Q so (Ok x) p = so x p
if_ok_so P Q so (Err e) p = tt

module _ (schema : List PredDef) (graph : List Triple) (query : Query) (plan : Plan) (lawful : IsLawful schema graph) (is : IsPlanOf schema query plan) (serves : AnyOrderServes) where
  -- the order of the plan is one of those that serve
  order_serves : variables_by schema graph query plan.order ≡ variables_of schema graph query
  order_serves = serves schema graph query plan.order is.ready is.all (subst (λ (names : List (List ℕ)). first_again [] names ≡ None) is.vars is.once)

  -- so what it finds is what the variables stand for
  pub found_by_plan : FiltersMeanTheirTexts → RootsMeanTheirTexts → planned_in_order schema graph (length plan.vars) query.blocks plan.parts plan.order ≡ variables_of schema graph query
  found_by_plan filters_mean roots_mean = plan_is_run schema graph query plan lawful is plan.order filters_mean roots_mean ∙ order_serves

  -- and their values are of their kinds
  pub kinds_by_plan : AreOfKind (defined_in schema query) (variables_of schema graph query)
  kinds_by_plan = subst (AreOfKind (defined_in schema query)) order_serves (plan_has_kinds schema graph query plan lawful is plan.order)
