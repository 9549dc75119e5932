use Rattle.std.proofs.Common.{◌≡◌, ◌<◌, ◌∙◌, length, List, ap, get_or, arith}
use Rattle.std.specs.Arc.{arc_value}
use Rattle.dg_keys.specs.declared.conflict.ConflictKey.{ConflictKey}
use Rattle.dg_keys.specs.Conflicts.{conflict_text}
use Rattle.dg_zero.specs.Pasts.{entries}
use Rattle.dg_zero.specs.declared.chain.Refusal.{Refusal}
use Rattle.dg_zero.specs.declared.entry.Event.TheVariants.{Refused}
use Rattle.dg_zero.specs.States.{Zero, and_entry}
use Rattle.dg_zero.proofs.Kept.{look_keeps}
use Rattle.dg_zero.proofs.Committing.{place_within, refused}
use Rattle.dg_zero.proofs.zero.ZeroState.refuse.Goals as goal

pub swap_remove-key-requires : goal.swap_remove-key-requires
swap_remove-key-requires c =
    let e : length c.into_vec-keys.result.items ≡ length c.args.offer.keys = ap (λ (ks : List ConflictKey). length ks) c.into_vec-keys.ensures in
    let lt : c.args.at < length c.args.offer.keys = place_within c.args.self.now.history c.args.offer.start c.args.offer.keys c.args.at c.args.ts c.requires.judged in
    omega (arith, c.into_vec-keys.result.ok)

pub invariant_of-self : goal.invariant_of-self
invariant_of-self c = rw c.append.ensures (look_keeps c.self.inside.groups c.self.inside.oracle c.self.inside.next_uid (arc_value c.self.inside.schema) c.self.inside.tablets.items (arc_value c.self.inside.owners) (entries c.self.inside.past) c.args.slip c.self.invariant)

pub returns-in_default-clause-legal : goal.returns-in_default-clause-legal
returns-in_default-clause-legal c = rw c.append.ensures (look_keeps c.self.inside.groups c.self.inside.oracle c.self.inside.next_uid (arc_value c.self.inside.schema) c.self.inside.tablets.items (arc_value c.self.inside.owners) (entries c.self.inside.past) c.args.slip c.self.invariant).legal

pub offset_bounds-as_slice-at : goal.offset_bounds-as_slice-at
offset_bounds-as_slice-at c =
    let lt : c.args.at < length c.args.offer.keys = place_within c.args.self.now.history c.args.offer.start c.args.offer.keys c.args.at c.args.ts c.requires.judged in
    omega (arith, lt, ap length c.as_slice.ensures)

pub bounds-as_slice-at : goal.bounds-as_slice-at
bounds-as_slice-at c =
    let lt : c.args.at < length c.args.offer.keys = place_within c.args.self.now.history c.args.offer.start c.args.offer.keys c.args.at c.args.ts c.requires.judged in
    omega (arith, lt, ap length c.as_slice.ensures)

pub invariant_of-self-2 : goal.invariant_of-self-2
invariant_of-self-2 c = rw c.end.ensures.ended (refused c.self.inside.groups c.self.inside.oracle c.self.inside.next_uid (arc_value c.self.inside.schema) c.self.inside.tablets.items (arc_value c.self.inside.owners) (entries c.self.inside.past) c.args.self.now.history (ap (λ (z : Zero). z.history) c.self.view_is) c.args.slip c.args.offer c.self.invariant c.requires.active c.args.at c.args.ts c.swap_remove-key.result c.index-as_slice-at.result _ c.requires.judged (c.swap_remove-key.ensures.value ∙ ap (λ (ks : List ConflictKey). get_or ks c.args.at c.swap_remove-key.result) c.into_vec-keys.ensures) (c.index-as_slice-at.is ∙ ap (λ (ks : List ConflictKey). get_or ks c.args.at c.index-as_slice-at.result) c.as_slice.ensures) (c.append-2.ensures ∙ ap (λ (r : Refusal). and_entry (entries c.self.inside.past) c.args.slip (Refused r.start r.reason)) c.in-Ok.ensures.refusal)).0

pub returns-clause-fault : goal.returns-clause-fault
returns-clause-fault c =
    let all = refused c.self.inside.groups c.self.inside.oracle c.self.inside.next_uid (arc_value c.self.inside.schema) c.self.inside.tablets.items (arc_value c.self.inside.owners) (entries c.self.inside.past) c.args.self.now.history (ap (λ (z : Zero). z.history) c.self.view_is) c.args.slip c.args.offer c.self.invariant c.requires.active c.args.at c.args.ts c.swap_remove-key.result c.index-as_slice-at.result _ c.requires.judged (c.swap_remove-key.ensures.value ∙ ap (λ (ks : List ConflictKey). get_or ks c.args.at c.swap_remove-key.result) c.into_vec-keys.ensures) (c.index-as_slice-at.is ∙ ap (λ (ks : List ConflictKey). get_or ks c.args.at c.index-as_slice-at.result) c.as_slice.ensures) (c.append-2.ensures ∙ ap (λ (r : Refusal). and_entry (entries c.self.inside.past) c.args.slip (Refused r.start r.reason)) c.in-Ok.ensures.refusal) in
    (all.1, λ i. record { groups = (c.self.view_is i).groups; history = all.2 i }, c.in-Ok.ensures.text ∙ ap conflict_text all.3)

pub returns-clause-legal : goal.returns-clause-legal
returns-clause-legal c = (refused c.self.inside.groups c.self.inside.oracle c.self.inside.next_uid (arc_value c.self.inside.schema) c.self.inside.tablets.items (arc_value c.self.inside.owners) (entries c.self.inside.past) c.args.self.now.history (ap (λ (z : Zero). z.history) c.self.view_is) c.args.slip c.args.offer c.self.invariant c.requires.active c.args.at c.args.ts c.swap_remove-key.result c.index-as_slice-at.result _ c.requires.judged (c.swap_remove-key.ensures.value ∙ ap (λ (ks : List ConflictKey). get_or ks c.args.at c.swap_remove-key.result) c.into_vec-keys.ensures) (c.index-as_slice-at.is ∙ ap (λ (ks : List ConflictKey). get_or ks c.args.at c.index-as_slice-at.result) c.as_slice.ensures) (c.append-2.ensures ∙ ap (λ (r : Refusal). and_entry (entries c.self.inside.past) c.args.slip (Refused r.start r.reason)) c.in-Ok.ensures.refusal)).0.legal
