use Rattle.std.proofs.Common.{◌≡◌, ◌+◌, ◌∙◌, List, length, ap, sym, arith}
use Rattle.dg_values.specs.declared.value.Posting.{Posting}
use Rattle.dg_values.specs.declared.value.Posting.TheVariants.{Val}
use Rattle.dg_base.specs.Places.{count_below}
use Rattle.dg_base.proofs.Postings.{ascends_behind, count-uid, count-val}
use Rattle.dg_base.proofs.base.Base.seek.Goals as goal

pub values_below-requires : goal.values_below-requires
values_below-requires c = rw c.as_slice.ensures.value (ascends_behind c.self.inside.nodes c.self.inside.values.items c.self.invariant.ascend)

pub returns-in-Uid-clause-below : goal.returns-in-Uid-clause-below
returns-in-Uid-clause-below c = rw (← c.self.view_is, c.in-Uid.is) (c.place.ensures.below ∙ sym (count-uid c.self.inside.nodes c.self.inside.values.items c.in-Uid.number c.self.invariant.none))

pub returns-in-Val-clause-below : goal.returns-in-Val-clause-below
returns-in-Val-clause-below c =
    let below = c.values_below.ensures.below ∙ ap (λ (ps : List Posting). count_below ps c.args.item.now) c.as_slice.ensures.value ∙ ap (λ (p : Posting). count_below c.self.inside.values.items p) c.in-Val.is in
    let both : c.len.result + c.values_below.result ≡ length c.self.inside.nodes + count_below c.self.inside.values.items (Val c.in-Val.field-0) = omega (arith, below, c.len.ensures) in
    rw (← c.self.view_is, c.in-Val.is) (both ∙ sym (count-val c.self.inside.nodes c.self.inside.values.items c.in-Val.field-0))
