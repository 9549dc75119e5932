use Rattle.std.proofs.Common.{◌≡◌, length, sym, ◌∙◌, arith}
use Rattle.dg_check.proofs.NameLaws.{added_places, known_places}
use Rattle.dg_upsert.proofs.names.Names.push.Goals as goal

pub invariant_of-self-in-Ok : goal.invariant_of-self-in-Ok
invariant_of-self-in-Ok c =
    let order = c.self.inside.order in
    let place : c.len-place.result ≡ length order.items = omega (arith, order.ok) in
    added_places order.items c.push-2.new.self.items c.args.name c.len-place.result c.self.inside.places c.insert.new.self c.self.invariant (sym c.contains_key.ensures ∙ c.if-contains_key.false) place c.in_ok-push-2.ensures.items c.in-Ok.ensures.updates

pub invariant_of-self-then-contains_key : goal.invariant_of-self-then-contains_key
invariant_of-self-then-contains_key c =
    known_places c.self.inside.order.items c.push.new.self.items c.args.name c.self.inside.places c.self.invariant (sym c.contains_key.ensures ∙ c.if-contains_key.true) c.in_ok-push.ensures.items
