use Rattle.std.proofs.Common.{rules, ◌≡◌, ◌<◌, length, get_or, ◌++◌, subst}
use Rattle.std.specs.Prelude.{Option, Result, option_to_list}
use Rattle.dg_check.specs.declared.fault.CheckFault.{CheckFault}
use Rattle.dg_check.specs.declared.places.Place.{Place}
use Rattle.dg_check.specs.declared.plan.Read.{Read}
use Rattle.dg_check.specs.Places.{place_met}
use Rattle.dg_check.specs.Faults.{bad_literal_at}
use Rattle.dg_check.specs.Plans.{asked_at}
use Rattle.dg_check.specs.Outcomes.{IsPlaceOutcome}
use Rattle.dg_check.proofs.PlanLaws.{step_on, stop_at, front_onward}
use Rattle.dg_check.proofs.reading.read_places.Goals as goal

pub returns-in-Err-clause-outcome : goal.returns-in-Err-clause-outcome
returns-in-Err-clause-outcome g c =
    let schema = c.args.literals.now.schema.now in
    let variables = c.args.literals.now.variables in
    let list = g.P.Patterns.refused c.read_at.new.patterns in
    let places = c.args.places.now in
    let i = c.loop-place.place-index in
    let place = c.place-item.result in
    let lt : i < length places = search rules in
    stop_at schema variables list places i place c.loop-place.out.items c.in-Err.fault lt c.loop-place.invariant.so
    (subst (λ (r : Result (Option Read) CheckFault). IsPlaceOutcome schema variables list (bad_literal_at schema variables (place_met (get_or places i place))) (asked_at (place_met (get_or places i place))) r) c.in-Err.is
    (subst (λ (p : Place). IsPlaceOutcome schema variables list (bad_literal_at schema variables (place_met p)) (asked_at (place_met p)) c.in_ok-fault.field-0) c.place-item.is c.in_ok-fault.ensures.outcome))

pub loop-place-preserved : goal.loop-place-preserved
loop-place-preserved g c =
    let schema = c.args.literals.now.schema.now in
    let variables = c.args.literals.now.variables in
    let list = g.P.Patterns.refused c.read_at.new.patterns in
    let places = c.args.places.now in
    let i = c.loop-place.place-index in
    let place = c.place-item.result in
    let lt : i < length places = search rules in
    let kept : c.add_any.new.out.items ≡ c.loop-place.out.items ++ option_to_list c.in-Ok.found = c.in_ok-add_any-in-Ok.ensures in
    record {
      so = step_on schema variables list places i place c.loop-place.out.items c.add_any.new.out.items c.in-Ok.found lt c.loop-place.invariant.so
          (subst (λ (r : Result (Option Read) CheckFault). IsPlaceOutcome schema variables list (bad_literal_at schema variables (place_met (get_or places i place))) (asked_at (place_met (get_or places i place))) r) c.in-Ok.is
          (subst (λ (p : Place). IsPlaceOutcome schema variables list (bad_literal_at schema variables (place_met p)) (asked_at (place_met p)) c.in_ok-fault.field-0) c.place-item.is c.in_ok-fault.ensures.outcome))
          kept;
      grows = front_onward (g.P.Patterns.refused c.args.patterns.now) (g.P.Patterns.refused c.loop-place.patterns) list c.loop-place.invariant.grows c.in_ok-fault.ensures.grows;
    }
