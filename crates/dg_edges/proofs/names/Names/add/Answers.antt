use Rattle.std.proofs.Common.{◌≡◌, length, ap, sym, ◌∙◌, arith}
use Rattle.std.specs.Prelude.{is_some}
use Rattle.dg_edges.proofs.NameLaws.{texts, known_name, added_places, added_names}
use Rattle.dg_edges.proofs.names.Names.add.Goals as goal

pub returns-then-contains_key : goal.returns-then-contains_key
returns-then-contains_key c =
    let name = c.args.name.now in
    rw (← c.self.view_is) (known_name (texts c.self.inside.order.items) name (ap is_some (sym (c.self.invariant name)) ∙ (sym c.contains_key.ensures ∙ c.if-contains_key.true)))

pub invariant_of-self-in-Ok : goal.invariant_of-self-in-Ok
invariant_of-self-in-Ok c =
    let order = c.self.inside.order in
    let place : c.len-place.result ≡ length order.items = omega (arith, order.ok) in
    added_places order.items c.push.new.self.items c.args.name c.len-place.result c.self.inside.places c.insert.new.self c.self.invariant (sym c.contains_key.ensures ∙ c.if-contains_key.false) place c.in_ok-push.ensures.items c.in-Ok.ensures.updates

pub returns-in-Ok : goal.returns-in-Ok
returns-in-Ok c =
    rw (← c.self.view_is) (added_names c.self.inside.order.items c.push.new.self.items c.args.name c.self.inside.places c.self.invariant (sym c.contains_key.ensures ∙ c.if-contains_key.false) c.in_ok-push.ensures.items)
