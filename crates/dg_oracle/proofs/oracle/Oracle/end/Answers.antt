use Rattle.std.proofs.Common.{◌≡◌, ℕ, List, Bool, true, false, refl, subst, sym, ◌∙◌}
use Rattle.std.specs.Bool.{OnFalse}
use Rattle.dg_oracle.specs.Commits.{is_active}
use Rattle.dg_oracle.proofs.Oracles.{ended_is, without_none}
use Rattle.dg_oracle.proofs.oracle.Oracle.end.Goals as goal

pub invariant_of-self : goal.invariant_of-self
invariant_of-self g c = rw c.drop_start.ensures (ended_is _ c.args.start c.self.invariant)

on_false : (b : Bool) (P : Type 0) → (b ≡ false → P) → OnFalse b P
on_false true P f = tt
on_false false P f = f refl

pub returns-clause-not_active : goal.returns-clause-not_active
returns-clause-not_active g c =
    on_false c.is_active-was_active.result _ (λ (none : c.is_active-was_active.result ≡ false).
    let inactive : is_active c.self.inside.active.items c.args.start ≡ false = subst (λ (active : List ℕ). is_active active c.args.start ≡ false) c.as_slice.ensures.value (sym c.is_active-was_active.ensures ∙ none) in
    let same : c.drop_start.new.active.items ≡ c.self.inside.active.items = c.drop_start.ensures ∙ without_none c.self.inside.active.items c.args.start inactive in
    rw same c.self.view_is)

pub returns-clause-valid : goal.returns-clause-valid
returns-clause-valid g c = rw c.drop_start.ensures (ended_is _ c.args.start c.self.invariant)
