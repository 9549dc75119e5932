use Rattle.std.proofs.Common.{rules, ◌≡◌, ℕ, List, Some, length, ap, subst, ◌∙◌}
use Rattle.std.specs.Prelude.{slice_get}
use Rattle.dg_parse.specs.declared.slots.Slot.{Slot}
use Rattle.dg_parse.specs.Slots.{group_of}
use Rattle.dg_parse.proofs.Slotted.{put_is}
use Rattle.dg_parse.proofs.slots.put.Goals as goal

pub returns-clause-put : goal.returns-clause-put
returns-clause-put c t before el within =
    let free = c.in-Some-free_place.ensures in
    let many : c.len.result ≡ length c.args.groups.now.items = search rules in
    let same : c.as_slice.result.now ≡ c.args.groups.now.items = search rules in
    let got : slice_get c.args.groups.now.items c.group_of-at.result ≡ Some c.in-Some-group_at.group.now = subst (λ (l : List (List Slot)). slice_get l c.group_of-at.result ≡ Some c.in-Some-group_at.group.now) same c.in-Some-group_at.ensures in
    rw c.filled-group.ensures (put_is before c.args.field.now c.in-Some.key.now c.args.groups.now.items c.group_of-at.result c.in-Some-free_place.place c.in-Some-number_after.number c.tag_of-tag.result c.hash_of-hash.result c.args.count c.in-Some-group_at.group.now free.0
    (search rules) c.hash_of-hash.ensures (c.group_of-at.ensures ∙ ap (λ (n : ℕ). group_of n c.hash_of-hash.result) many) c.tag_of-tag.ensures got free.1 free.2 c.in-Some-number_after.ensures el within)
