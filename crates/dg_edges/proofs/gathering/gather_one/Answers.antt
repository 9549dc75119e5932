use Rattle.std.proofs.Common.{◌≡◌, get_or, map, ◌∙◌}
use Rattle.std.proofs.Math.ListN.{set}
use Rattle.std.proofs.lemmas.Option.{get_or_from_slice_get}
use Rattle.dg_values.specs.Ascending.{with_one}
use Rattle.dg_values.specs.Order.{posting_cmp}
use Rattle.dg_values.specs.declared.value.Posting.TheVariants.{Uid}
use Rattle.dg_edges.specs.Filing.{with_filed}
use Rattle.dg_edges.proofs.AtKeys.{mapped_at, others_stay, set_at}
use Rattle.dg_edges.proofs.ListLaws.{on_ok_with}
use Rattle.dg_edges.proofs.FilingLaws.{filed_other, filed_here}
use Rattle.dg_edges.proofs.gathering.gather_one.Goals as goal

pub returns-in-Ok : goal.returns-in-Ok
returns-in-Ok c f e =
    let keys = c.args.keys.now in
    let filed = c.args.filed.now in
    let key = filed.key in
    let place = c.in-Ok.place in
    let stands = c.in-Ok.ensures.there in
    let is = get_or_from_slice_get keys place key key stands.item_is in
    let was = c.index_mut.result.now in
    let from : was ≡ f key = c.index_mut.ensures.value ∙ ((λ i. get_or (e i) place was) ∙ mapped_at f keys place key was stands.within is) in
    on_ok_with c.put.result (c.put.new.self ≡ with_one posting_cmp was (Uid filed.node)) (set c.args.lists.now.items place c.put.new.self ≡ map (λ k. with_filed filed k (f k)) keys)
    (λ one. (λ i. set (e i) place (one i)) ∙ ((λ i. set (map f keys) place (with_one posting_cmp (from i) (Uid filed.node))) ∙ ((λ i. set (map f keys) place (filed_here filed (f key) i)) ∙ set_at (with_filed filed) key (filed_other filed) f keys place c.requires.ascend stands.within is)))
    c.put.ensures

pub returns-in-Err : goal.returns-in-Err
returns-in-Err c f e =
    e ∙ others_stay (with_filed c.args.filed.now) c.args.filed.now.key (filed_other c.args.filed.now) f c.args.keys.now c.in-Err.ensures.missing.missing
