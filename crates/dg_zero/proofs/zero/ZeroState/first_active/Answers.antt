use Rattle.std.proofs.Common.{◌≡◌, ◌∙◌, ℕ, None, Some, refl, ap, sym}
use Rattle.std.specs.Prelude.{Option, IfNone}
use Rattle.std.specs.Arc.{arc_value}
use Rattle.dg_zero.specs.Counters.{active, starts_of}
use Rattle.dg_zero.specs.Pasts.{entries}
use Rattle.dg_zero.specs.States.{Zero}
use Rattle.dg_zero.proofs.Kept.{none_active}
use Rattle.dg_zero.proofs.AlterKeeps.{found_first, no_first}
use Rattle.dg_zero.proofs.zero.ZeroState.first_active.Goals as goal

pub returns-clause-found : goal.returns-clause-found
returns-clause-found c =
    found_first c.args.self.now.history c.self.inside.oracle.line c.first_active.result c.self.inside.oracle.active (c.self.invariant.active_are ∙ ap (λ (z : Zero). starts_of (active z.history)) c.self.view_is) c.first_active.ensures.valid.starts_ascend c.first_active.ensures.first

where_none : (o : Option ℕ) (P : Type 0) → (None ≡ o → P) → IfNone o P
where_none None P f = f refl
where_none (Some n) P f = tt

pub returns-clause-none : goal.returns-clause-none
returns-clause-none c =
    where_none c.first_active.result _ (λ none.
    ap (λ (z : Zero). active z.history) (sym c.self.view_is) ∙ none_active c.self.inside.groups c.self.inside.oracle c.self.inside.next_uid (arc_value c.self.inside.schema) c.self.inside.tablets.items (arc_value c.self.inside.owners) (entries c.self.inside.past) 0 c.self.invariant (no_first c.self.inside.oracle.active (none ∙ c.first_active.ensures.first)))
