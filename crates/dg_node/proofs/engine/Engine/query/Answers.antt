use Rattle.std.proofs.Common.{◌≡◌, subst}
use Rattle.std.specs.Prelude.{IfOk}
use Rattle.dg_wire.specs.declared.reply.Reply.{Reply}
use Rattle.dg_node.specs.declared.engine.Slot.{Slot}
use Rattle.dg_node.specs.Held.{Held}
use Rattle.dg_node.specs.Machine.{Machine}
use Rattle.dg_node.specs.Queries.{Queries}
use Rattle.dg_node.specs.State.{Leads}
use Rattle.dg_node.proofs.OneAmong.{it_is}
use Rattle.dg_node.proofs.Tabled.{none_at, some_at, session_there, query_leads, unseen_by}
use Rattle.dg_node.proofs.engine.Engine.query.Goals as goal

pub query-requires-clause-session : goal.query-requires-clause-session
query-requires-clause-session g c = λ κs within.
    let z = c.self.inside.cluster in
    let slots = c.self.inside.slots.items in
    let sid = c.args.sid in
    let a = some_at slots c.as_slice.result.now sid c.place_of.result c.in-Some.place c.as_slice.ensures.value c.place_of.ensures.place c.in-Some.is in
    let d = c.index.result.now in
    let it : d ≡ a.it = it_is (λ (s : Slot). s.sid) sid slots c.in-Some.place a d c.index.ensures in
    session_there z slots sid c.in-Some.place c.self.invariant a d it

pub returns-in-Some-clause-answered : goal.returns-in-Some-clause-answered
returns-in-Some-clause-answered g c =
    let z = c.self.inside.cluster in
    let slots = c.self.inside.slots.items in
    let sid = c.args.sid in
    let list = g.P.Patterns.refused c.query.new.patterns in
    let a = some_at slots c.as_slice.result.now sid c.place_of.result c.in-Some.place c.as_slice.ensures.value c.place_of.ensures.place c.in-Some.is in
    let d = c.index.result.now in
    let it : d ≡ a.it = it_is (λ (s : Slot). s.sid) sid slots c.in-Some.place a d c.index.ensures in
    subst (λ (h : Held). IfOk c.query.result (λ (p : Reply). Leads h (λ (m n : Machine). Queries list m sid c.args.body.now p n) h)) c.self.view_is
    (query_leads z slots sid c.in-Some.place c.self.invariant a d it c.query.result (λ (p : Reply) (m n : Machine). Queries list m sid c.args.body.now p n)
    c.query.ensures.answered)

pub returns-in-None-clause-answered : goal.returns-in-None-clause-answered
returns-in-None-clause-answered g c =
    let z = c.self.inside.cluster in
    let slots = c.self.inside.slots.items in
    let sid = c.args.sid in
    let list = g.P.Patterns.refused c.query-in-None.new.patterns in
    let none = none_at slots c.as_slice.result.now sid c.place_of.result c.as_slice.ensures.value c.place_of.ensures.place c.in-None.is in
    subst (λ (h : Held). IfOk c.query-in-None.result (λ (p : Reply). Leads h (λ (m n : Machine). Queries list m sid c.args.body.now p n) h)) c.self.view_is
    (unseen_by z slots sid c.self.invariant none c.query-in-None.result (λ (p : Reply) (m n : Machine). Queries list m sid c.args.body.now p n)
    c.query-in-None.ensures.answered)
