use Rattle.std.proofs.Common.{◌≡◌, [], get_or, ◌++◌, sym, ◌∙◌}
use Rattle.dg_edges.specs.Altering.{filed_long}
use Rattle.dg_edges.proofs.AtKeys.{mapped_at}
use Rattle.dg_edges.proofs.FilingLaws.{items_more}
use Rattle.dg_edges.proofs.altering.numbers_at.Goals as goal

pub loop-place-preserved : goal.loop-place-preserved
loop-place-preserved c f e =
    let schema = c.args.schema.now in
    let keys = c.args.keys.now in
    let place = c.loop-place.place in
    let key = c.index-keys-place.result in
    let at = c.index-lists-place.result in
    let is = sym c.index-keys-place.is in
    let from : at ≡ f key = c.index-lists-place.is ∙ ((λ i. get_or (e i) place at) ∙ mapped_at f keys place key at c.loop-place-test.true is) in
    items_more (λ k. filed_long schema k (f k)) keys place key [] c.loop-place.filed.items c.file_long.new.filed.items c.loop-place-test.true (c.loop-place.invariant f e)
    (c.in_ok-file_long.ensures ∙ ((λ i. c.loop-place.filed.items ++ filed_long schema key (from i)) ∙ λ i. c.loop-place.filed.items ++ filed_long schema (sym is i) (f (sym is i))))
