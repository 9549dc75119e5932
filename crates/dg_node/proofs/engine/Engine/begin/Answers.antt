use Rattle.std.proofs.Common.{◌≡◌, List, None, refl, sym, subst, ap, ◌∙◌}
use Rattle.dg_wire.specs.declared.refusal.Refusal.TheVariants as refusals
use Rattle.dg_wire.specs.declared.reply.Reply.{Reply}
use Rattle.dg_wire.specs.declared.reply.Reply.TheVariants as replies
use Rattle.dg_wire.specs.declared.request.Request.TheVariants as requests
use Rattle.dg_node.specs.declared.engine.Slot.{Slot}
use Rattle.dg_node.specs.Held.{Held}
use Rattle.dg_node.specs.Kept.{with_opened, IsKept}
use Rattle.dg_node.specs.Machine.{Machine}
use Rattle.dg_node.specs.State.{Leads}
use Rattle.dg_node.specs.Steps.{Spares}
use Rattle.dg_node.specs.Transactions.{begun}
use Rattle.dg_node.proofs.LeadLemmas.{on_any}
use Rattle.dg_node.proofs.Slots.{held_by}
use Rattle.dg_node.proofs.Sparing.{spared_kept, spared_leads}
use Rattle.dg_node.proofs.Tabled.{already_found, none_at, not_some, begun_kept, begun_leads}
use Rattle.dg_node.proofs.engine.Engine.begin.Goals as goal

pub returns-then-is_some-clause-ok : goal.returns-then-is_some-clause-ok
returns-then-is_some-clause-ok c =
    subst (λ (h : Held). Leads h (λ (m n : Machine). ◌≡◌ {A = Reply × Machine} (begun m c.args.sid) (replies.Refused (refusals.SessionOpen c.args.sid), n)) h) c.self.view_is
    (already_found c.self.inside.cluster c.self.inside.slots.items c.as_slice.result.now c.args.sid c.self.invariant c.place_of.result c.as_slice.ensures.value c.place_of.ensures.place (sym c.is_some.ensures ∙ c.if-is_some.true))

pub invariant_of-self-in_err-reply : goal.invariant_of-self-in_err-reply
invariant_of-self-in_err-reply c =
    subst (IsKept c.begin.new.cluster) (sym c.reserve.ensures.items)
    (spared_kept c.args.sid c.self.inside.cluster c.begin.new.cluster c.self.inside.slots.items c.in_err-reply.ensures.err c.in_err-reply.ensures.legal c.self.invariant)

pub returns-in_err-reply-clause-err : goal.returns-in_err-reply-clause-err
returns-in_err-reply-clause-err c =
    let slots = c.self.inside.slots.items in
    on_any _ _ (subst (λ (h : Held). Leads h (λ (m n : Machine). Spares (requests.Begin c.args.sid) m n) (held_by c.begin.new.cluster c.reserve.new.self.items)) c.self.view_is
    (subst (λ (l : List Slot). Leads (held_by c.self.inside.cluster slots) (λ (m n : Machine). Spares (requests.Begin c.args.sid) m n) (held_by c.begin.new.cluster l)) (sym c.reserve.ensures.items)
    (spared_leads c.args.sid c.self.inside.cluster c.begin.new.cluster slots c.in_err-reply.ensures.err)))

pub invariant_of-self-2 : goal.invariant_of-self-2
invariant_of-self-2 c =
    let z = c.self.inside.cluster in
    let w = c.begin.new.cluster in
    let slots = c.self.inside.slots.items in
    let sid = c.args.sid in
    let none = none_at slots c.as_slice.result.now sid c.place_of.result c.as_slice.ensures.value c.place_of.ensures.place (not_some c.place_of.result (sym c.is_some.ensures ∙ c.if-is_some.false)) in
    let items : c.push_opened.new.slots.items ≡ with_opened slots sid c.begin.new.session = c.push_opened.ensures ∙ ap (λ (l : List Slot). with_opened l sid c.begin.new.session) c.reserve.ensures.items in
    subst (IsKept w) (sym items)
    (begun_kept z w slots sid c.self.invariant none None c.begin.new.session refl (λ (m n : Machine). ◌≡◌ {A = Reply × Machine} (begun m sid) (c.in_ok-reply.reply, n)) c.in_ok-reply.ensures.ok c.in_ok-reply.ensures.legal c.in_ok-reply.ensures.session)

pub returns-clause-ok : goal.returns-clause-ok
returns-clause-ok c =
    let z = c.self.inside.cluster in
    let w = c.begin.new.cluster in
    let slots = c.self.inside.slots.items in
    let sid = c.args.sid in
    let none = none_at slots c.as_slice.result.now sid c.place_of.result c.as_slice.ensures.value c.place_of.ensures.place (not_some c.place_of.result (sym c.is_some.ensures ∙ c.if-is_some.false)) in
    let items : c.push_opened.new.slots.items ≡ with_opened slots sid c.begin.new.session = c.push_opened.ensures ∙ ap (λ (l : List Slot). with_opened l sid c.begin.new.session) c.reserve.ensures.items in
    subst (λ (h : Held). Leads h (λ (m n : Machine). ◌≡◌ {A = Reply × Machine} (begun m sid) (c.in_ok-reply.reply, n)) (held_by w c.push_opened.new.slots.items)) c.self.view_is
    (subst (λ (l : List Slot). Leads (held_by z slots) (λ (m n : Machine). ◌≡◌ {A = Reply × Machine} (begun m sid) (c.in_ok-reply.reply, n)) (held_by w l)) (sym items)
    (begun_leads z w slots sid c.self.invariant none None c.begin.new.session refl (λ (m n : Machine). ◌≡◌ {A = Reply × Machine} (begun m sid) (c.in_ok-reply.reply, n)) c.in_ok-reply.ensures.ok c.at_rest.ensures.rest))
