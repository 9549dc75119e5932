use Rattle.std.proofs.Common.{◌≡◌, [], ◌++◌, get_or, sym, ◌∙◌}
use Rattle.dg_delta.specs.Ops.{changes_between}
use Rattle.dg_edges.specs.Deltas.{and_part}
use Rattle.dg_edges.proofs.AtKeys.{mapped_at}
use Rattle.dg_edges.proofs.ListLaws.{parts_more}
use Rattle.dg_edges.proofs.deltas.parts_of.Goals as goal

pub loop-place-preserved : goal.loop-place-preserved
loop-place-preserved c f e =
    let keys = c.args.keys.now in
    let place = c.loop-place.place in
    let key = c.index-keys-place.result in
    let at = c.index-lists-place.result in
    let from : at ≡ f key = c.index-lists-place.is ∙ ((λ i. get_or (e i) place at) ∙ mapped_at f keys place key at c.loop-place-test.true (sym c.index-keys-place.is)) in
    parts_more (λ k. changes_between (f k).before (f k).after) keys place key c.loop-place.parts.items c.next_part.new.parts.items c.loop-place-test.true (sym c.index-keys-place.is) (c.loop-place.invariant f e)
    (c.in_ok-next_part.ensures ∙ λ i. c.loop-place.parts.items ++ and_part key (changes_between (from i).before (from i).after) [])
