use Rattle.std.proofs.Common.{◌≡◌, ◌∙◌, ◌-◌, ◌≤◌, ◌^◌, ap, sym, None, List, [], arith, rules}
use Rattle.std.specs.Arc.{arc_value}
use Rattle.std.specs.List.{list_any}
use Rattle.dg_schema.specs.declared.definition.PredDef.{PredDef}
use Rattle.dg_schema.specs.Definitions.{is_declared}
use Rattle.dg_zero.specs.declared.tablets.Place.{Place}
use Rattle.dg_zero.specs.Counters.{next, active, starts_of}
use Rattle.dg_zero.specs.Pasts.{entries}
use Rattle.dg_zero.specs.Places.{is_place_of, tablets}
use Rattle.dg_zero.specs.States.{Zero}
use Rattle.dg_zero.specs.Worlds.{schema}
use Rattle.dg_zero.proofs.Kept.{none_active}
use Rattle.dg_zero.proofs.AlterKeeps.{least_first, no_first, held_nowhere}
use Rattle.dg_zero.proofs.DeclaredTablets.{tablets_named}
use Rattle.dg_zero.proofs.zero.ZeroState.prepare.Goals as goal

pub returns-in-Some-clause-fault : goal.returns-in-Some-clause-fault
returns-in-Some-clause-fault c =
    least_first c.args.self.now.history c.self.inside.oracle.line c.in-Some.start c.self.inside.oracle.active (c.self.invariant.active_are ∙ ap (λ (z : Zero). starts_of (active z.history)) c.self.view_is) c.first_active.ensures.valid.starts_ascend (sym c.in-Some.is ∙ c.first_active.ensures.first)

pub returns-then-next-gt-LAST_START-clause-fault : goal.returns-then-next-gt-LAST_START-clause-fault
returns-then-next-gt-LAST_START-clause-fault c =
    let none : None ≡ c.first_active.result = search rules in
    let idle : active c.args.self.now.history ≡ [] = ap (λ (z : Zero). active z.history) (sym c.self.view_is) ∙ none_active c.self.inside.groups c.self.inside.oracle c.self.inside.next_uid (arc_value c.self.inside.schema) c.self.inside.tablets.items (arc_value c.self.inside.owners) (entries c.self.inside.past) 0 c.self.invariant (no_first c.self.inside.oracle.active (none ∙ c.first_active.ensures.first)) in
    let next_is : c.next-next.result ≡ next c.args.self.now.history = c.next-next.ensures.next ∙ (c.self.invariant.next_is ∙ ap (λ (z : Zero). next z.history) c.self.view_is) in
    let spent : 2 ^ 62 - 1 ≤ next c.args.self.now.history = omega (arith, next_is, c.if-next-gt-LAST_START.true) in
    (idle, held_nowhere c.self.inside.groups c.self.inside.oracle c.self.inside.next_uid (arc_value c.self.inside.schema) c.self.inside.tablets.items (arc_value c.self.inside.owners) (entries c.self.inside.past) c.args.self.now (ap (λ (z : Zero). z.groups) c.self.view_is) (ap (λ (z : Zero). z.history) c.self.view_is) 0 c.self.invariant c.args.newer.now, next_is, spent)

pub make_altered-requires-clause-named : goal.make_altered-requires-clause-named
make_altered-requires-clause-named c pred =
    let places : c.as_slice.result.now ≡ tablets (entries c.self.inside.past) = c.as_slice.ensures.value ∙ c.self.invariant.tablets_are in
    let declared : c.deref.result.now ≡ schema (entries c.self.inside.past) = c.deref.ensures ∙ c.self.invariant.schema_is in
    ap (λ (ts : List Place). list_any (is_place_of pred) ts) places
    ∙ (tablets_named c.self.inside.groups (entries c.self.inside.past) c.self.invariant.legal pred ∙ ap (λ (ds : List PredDef). is_declared ds pred) (sym declared))

pub returns-clause-none_active : goal.returns-clause-none_active
returns-clause-none_active c =
    let none : None ≡ c.first_active.result = search rules in
    ap (λ (z : Zero). active z.history) (sym c.self.view_is) ∙ none_active c.self.inside.groups c.self.inside.oracle c.self.inside.next_uid (arc_value c.self.inside.schema) c.self.inside.tablets.items (arc_value c.self.inside.owners) (entries c.self.inside.past) 0 c.self.invariant (no_first c.self.inside.oracle.active (none ∙ c.first_active.ensures.first))
