use Rattle.std.proofs.Common.{◌∙◌, List, ap, sym}
use Rattle.dg_values.specs.Ascending.{has}
use Rattle.dg_values.specs.Order.{posting_cmp}
use Rattle.dg_values.specs.declared.value.Posting.{Posting}
use Rattle.dg_base.proofs.Postings.{ascends_behind, has-uid, has-val}
use Rattle.dg_base.proofs.base.Base.find.Goals as goal

pub is_there-requires : goal.is_there-requires
is_there-requires c = record { ascend = rw c.as_slice.ensures.value (ascends_behind c.self.inside.nodes c.self.inside.values.items c.self.invariant.ascend) }

pub returns-in-Uid : goal.returns-in-Uid
returns-in-Uid c = rw (← c.self.view_is, c.in-Uid.is) (c.place.ensures.there ∙ sym (has-uid c.self.inside.nodes c.self.inside.values.items c.in-Uid.number c.self.invariant.none))

pub returns-in-Val : goal.returns-in-Val
returns-in-Val c =
    let found = c.is_there.ensures ∙ ap (λ (ps : List Posting). has posting_cmp ps c.args.item.now) c.as_slice.ensures.value ∙ ap (λ (p : Posting). has posting_cmp c.self.inside.values.items p) c.in-Val.is in
    rw (← c.self.view_is, c.in-Val.is) (found ∙ sym (has-val c.self.inside.nodes c.self.inside.values.items c.in-Val.field-0))
