use Rattle.std.proofs.Common.{IfOk, [], ◌∷◌, sym, subst}
use Rattle.dg_parse.specs.declared.query.QFunc.{QFunc}
use Rattle.dg_check.specs.Faults.{unread_func}
use Rattle.dg_check.specs.Plans.{of_func}
use Rattle.dg_check.specs.Outcomes.{IsPlaceOutcome}
use Rattle.dg_check.proofs.PlanLaws.{between_place}
use Rattle.dg_check.proofs.reading.read_func.Goals as goal

pub returns-in-Between-clause-outcome : goal.returns-in-Between-clause-outcome
returns-in-Between-clause-outcome g c =
    let schema = c.args.literals.now.schema.now in
    let variables = c.args.literals.now.variables in
    let list = g.P.Patterns.refused c.args.patterns.now in
    subst (λ (f : QFunc). IfOk c.read_between.result (IsPlaceOutcome schema variables list (unread_func schema variables f) (of_func f ∷ []))) (sym c.in-Between.is)
    (between_place schema variables list c.in-Between.of c.in-Between.low c.in-Between.high c.read_between.result c.read_between.ensures)
