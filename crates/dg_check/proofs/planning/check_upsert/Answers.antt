use Rattle.std.proofs.Common.{◌≡◌, [], ap, ◌∙◌, rules}
use Rattle.std.specs.Prelude.{Ok}
use Rattle.dg_check.specs.Blocks.{names_of_blocks}
use Rattle.dg_check.specs.Cycles.{is_place_in}
use Rattle.dg_check.specs.RunOrder.{are_ready, dependencies}
use Rattle.dg_check.proofs.PlanLaws.{planned_upsert}
use Rattle.dg_check.proofs.planning.check_upsert.Goals as goal

pub returns-in_ok-plan-in-Ok-clause-plan : goal.returns-in_ok-plan-in-Ok-clause-plan
returns-in_ok-plan-in-Ok-clause-plan g c =
    let made = c.in_ok-plan-in-Ok in
    let told = c.in_ok-found.ensures in
    let plan = made.plan in
    let checked = c.in_ok-found.field-0 in
    let is_read : checked.found ≡ Ok c.in-Ok.read = search rules in
    let order : plan.order ≡ checked.order = search rules in
    let vars : plan.vars ≡ checked.vars = search rules in
    planned_upsert c.args.schema.now c.args.upsert (g.P.Patterns.refused c.check_upsert_query.new.patterns) checked.found c.plan_of.result plan c.in-Ok.read
    told.outcome is_read made.was made.ensures.same.0 (vars ∙ told.vars) c.plan_of.ensures.parts
    (ap (are_ready (dependencies (names_of_blocks c.args.upsert.query.blocks)) []) order ∙ told.ready) (λ at. ap (λ l. is_place_in l at) order ∙ told.there at)
