use Rattle.std.proofs.Common.{◌≡◌, length, sym, ◌∙◌, arith}
use Rattle.dg_check.proofs.NameLaws.{place_missing}
use Rattle.dg_upsert.proofs.names.Names.place.Goals as goal

pub returns-in-None : goal.returns-in-None
returns-in-None c =
    let order = c.self.inside.order in
    let name = c.args.name.now in
    let count : c.len.result ≡ length order.items = omega (arith, order.ok) in
    rw (← c.self.view_is) (count ∙ place_missing order.items name (sym (c.self.invariant name) ∙ sym c.in-None.ensures.value))
