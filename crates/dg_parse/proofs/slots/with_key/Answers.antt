use Rattle.std.proofs.Common.{rules, ◌≡◌, true, List, sym, subst}
use Rattle.dg_parse.specs.declared.slots.Slot.{Slot}
use Rattle.dg_parse.specs.Keys.{key_of}
use Rattle.dg_parse.specs.Slots.{AreIndexed, is_in}
use Rattle.dg_parse.proofs.Slotted.{indexed_again}
use Rattle.dg_parse.proofs.slots.with_key.Goals as goal

pub returns-then-is_again-clause-made : goal.returns-then-is_again-clause-made
returns-then-is_again-clause-made c are =
    let kept = c.put.ensures.kept c.if-put.false in
    let same : c.put.new.groups.items ≡ c.in_ok-groups.field-0.groups.items = search (rules, kept) in
    let now : AreIndexed c.args.fields.now c.put.new.groups.items c.in_ok-groups.field-0.others = subst (λ (g : List (List Slot)). AreIndexed c.args.fields.now g c.in_ok-groups.field-0.others) (sym same) (c.in_ok-groups.ensures.made are) in
    let there : is_in c.args.fields.now c.put.new.groups.items (key_of c.args.field.now) ≡ true = subst (λ (g : List (List Slot)). is_in c.args.fields.now g (key_of c.args.field.now) ≡ true) c.as_slice.ensures.value (c.is_again.ensures c.if-is_again.true) in
    indexed_again c.args.fields.now c.args.field.now c.put.new.groups.items c.in_ok-groups.field-0.others now there

pub returns-clause-made : goal.returns-clause-made
returns-clause-made c are =
    let kept = c.put.ensures.kept c.if-put.false in
    let same : c.put.new.groups.items ≡ c.in_ok-groups.field-0.groups.items = search (rules, kept) in
    let now : AreIndexed c.args.fields.now c.put.new.groups.items c.in_ok-groups.field-0.others = subst (λ (g : List (List Slot)). AreIndexed c.args.fields.now g c.in_ok-groups.field-0.others) (sym same) (c.in_ok-groups.ensures.made are) in
    c.in_ok-others.ensures.made c.args.fields.now c.put.new.groups.items now
