use Rattle.std.proofs.Common.{◌≡◌, ◌∙◌, sym, ap, subst, List, map}
use Rattle.std.specs.Arc.{arc_value}
use Rattle.dg_group.specs.declared.copied.Copied.{Copied}
use Rattle.dg_group.specs.Groups.{Group, copy_after, fresh_at, with_fresh, group_after, CanApply, IsWhole}
use Rattle.dg_group.specs.Stands.{IsInStep}
use Rattle.dg_group.proofs.Applied.{next_keeps_in_step}
use Rattle.dg_group.proofs.Whole.{older, whole_after}
use Rattle.dg_group.proofs.group.GroupState.apply.Goals as goal

pub put_record-requires-clause-newer : goal.put_record-requires-clause-newer
put_record-requires-clause-newer c =
    let group : Group = record { number = c.self.inside.number; last = c.self.inside.last; copies = (arc_value c.self.inside.copies).items } in
    let can : CanApply group c.args.rec.now = subst (λ (g : Group). CanApply g c.args.rec.now) (sym c.self.view_is) c.requires.next in
    older group c.args.rec.now c.self.invariant can

pub invariant_of-self-2 : goal.invariant_of-self-2
invariant_of-self-2 c =
    let group : Group = record { number = c.self.inside.number; last = c.self.inside.last; copies = (arc_value c.self.inside.copies).items } in
    let can : CanApply group c.args.rec.now = subst (λ (g : Group). CanApply g c.args.rec.now) (sym c.self.view_is) c.requires.next in
    let after : map (copy_after c.args.rec.now) (with_fresh group.copies (fresh_at group.number c.args.rec.now)) ≡ (arc_value c.put_record.new.copies).items = sym c.in_ok-put_record.ensures.ok in
    subst (λ (cs : List Copied). IsWhole (record { number = group.number; last = c.args.rec.now.ts; copies = cs })) after (whole_after group c.args.rec.now c.self.invariant can)

pub returns-clause-in_step : goal.returns-clause-in_step
returns-clause-in_step c = λ n h l x s e.
    let group : Group = record { number = c.self.inside.number; last = c.self.inside.last; copies = (arc_value c.self.inside.copies).items } in
    let after : map (copy_after c.args.rec.now) (with_fresh group.copies (fresh_at group.number c.args.rec.now)) ≡ (arc_value c.put_record.new.copies).items = sym c.in_ok-put_record.ensures.ok in
    let same : group_after c.args.self.now c.args.rec.now ≡ record { number = group.number; last = c.args.rec.now.ts; copies = (arc_value c.put_record.new.copies).items } =
    ap (λ (g : Group). group_after g c.args.rec.now) (sym c.self.view_is) ∙ (λ i. record { number = group.number; last = c.args.rec.now.ts; copies = after i }) in
    subst (λ (g : Group). IsInStep g h) same (next_keeps_in_step n h c.args.self.now c.args.rec.now l x s e)
