use Rattle.std.proofs.Common.{◌≡◌, [], ◌++◌, get_or, sym, ◌∙◌}
use Rattle.dg_delta.specs.Ops.{changes_between}
use Rattle.dg_edges.specs.Deltas.{and_part}
use Rattle.dg_edges.proofs.AtKeys.{mapped_at}
use Rattle.dg_edges.proofs.ListLaws.{parts_more}
use Rattle.dg_edges.proofs.deltas.parts_between.Goals as goal

pub loop-place-preserved : goal.loop-place-preserved
loop-place-preserved c f g d e =
    let keys = c.args.keys.now in
    let place = c.loop-place.place in
    let key = c.index-keys-place.result in
    let old = c.index-before-place.result in
    let new = c.index-after-place.result in
    let was : old ≡ f key = c.index-before-place.is ∙ ((λ i. get_or (d i) place old) ∙ mapped_at f keys place key old c.loop-place-test.true (sym c.index-keys-place.is)) in
    let is : new ≡ g key = c.index-after-place.is ∙ ((λ i. get_or (e i) place new) ∙ mapped_at g keys place key new c.loop-place-test.true (sym c.index-keys-place.is)) in
    parts_more (λ k. changes_between (f k) (g k)) keys place key c.loop-place.parts.items c.next_nodes.new.parts.items c.loop-place-test.true (sym c.index-keys-place.is) (c.loop-place.invariant f g d e)
    (c.in_ok-next_nodes.ensures ∙ λ i. c.loop-place.parts.items ++ and_part key (changes_between (was i) (is i)) [])
