use Rattle.std.proofs.Common.{◌≡◌, List, sym, subst}
use Rattle.dg_parse.specs.declared.slots.Slot.{Slot}
use Rattle.dg_parse.specs.Slots.{AreIndexed}
use Rattle.dg_parse.proofs.slots.with_next.Goals as goal

pub returns-clause-made : goal.returns-clause-made
returns-clause-made c before el are =
    let kept : c.put.new.groups.items ≡ c.args.index.groups.items = c.put.ensures.kept c.if-put.false in
    c.in_ok-others.ensures.made before c.put.new.groups.items (subst (λ (g : List (List Slot)). AreIndexed before g c.args.index.others) (sym kept) are)
