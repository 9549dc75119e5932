use Rattle.std.proofs.Common.{◌≡◌, ◌∙◌, ◌<◌, List, length, map, ap, sym, arith}
use Rattle.std.proofs.Math.ListN.{set}
use Rattle.std.proofs.lemmas.List.{with_items_is, length-set}
use Rattle.dg_group.specs.Groups.{Group}
use Rattle.dg_node.proofs.Bringing.{one_brought, one_further}
use Rattle.dg_node.proofs.current.bring_all.Goals as goal

pub loop-group-preserved : goal.loop-group-preserved
loop-group-preserved c =
    let lt : c.loop-group.group-index < length c.loop-group.group-items = omega (arith, c.loop-group-test.true, c.loop-group.auto.group-items) in
    one_brought c.args.zero.now.history c.deref_mut-group-items.result.now c.loop-group.group-items c.loop-group.group-index c.group-item.result c.bring_up.new.group lt (sym c.group-item.is) c.loop-group.invariant c.bring_up.ensures.in_step (c.bring_up.ensures.number ∙ ap (λ (g : Group). g.number) (sym c.group-item.is)) c.in_ok-bring_up.ensures.applied

pub returns-in_err-bring_up-clause-numbers : goal.returns-in_err-bring_up-clause-numbers
returns-in_err-bring_up-clause-numbers c =
    let lt : c.loop-group.group-index < length c.loop-group.group-items = omega (arith, c.loop-group-test.true, c.loop-group.auto.group-items) in
    let now : List Group = set c.loop-group.group-items c.loop-group.group-index c.bring_up.new.group in
    let long : length now ≡ c.args.groups.now.len = length-set c.loop-group.group-items c.loop-group.group-index c.bring_up.new.group ∙ (c.loop-group.auto.group-items ∙ c.deref_mut-group-items.ensures.len) in
    let further = one_further c.args.zero.now.history c.deref_mut-group-items.result.now c.loop-group.group-items c.loop-group.group-index c.group-item.result c.bring_up.new.group lt (sym c.group-item.is) c.loop-group.invariant c.bring_up.ensures.in_step (c.bring_up.ensures.number ∙ ap (λ (g : Group). g.number) (sym c.group-item.is)) in
    ap (map (λ (g : Group). g.number)) (with_items_is c.args.groups.now now long) ∙ (further.1 ∙ ap (map (λ (g : Group). g.number)) c.deref_mut-group-items.ensures.value)
