use Rattle.std.proofs.Common.{◌≡◌, false, Some, get_or, map, subst, ◌∙◌}
use Rattle.std.proofs.Math.ListN.{set}
use Rattle.std.proofs.lemmas.Option.{get_or_from_slice_get}
use Rattle.dg_values.specs.Ascending.{has}
use Rattle.dg_keys.specs.Keys.{key_cmp}
use Rattle.dg_keys.specs.declared.key.Key.{Key}
use Rattle.dg_edges.specs.Deltas.{data_key}
use Rattle.dg_edges.specs.Lists.{changed_at}
use Rattle.dg_edges.proofs.ListLaws.{on_ok_with, other_keys, at_place}
use Rattle.dg_edges.proofs.AtKeys.{mapped_at}
use Rattle.dg_edges.proofs.lists.change_at.Goals as goal

pub returns-in-Ok : goal.returns-in-Ok
returns-in-Ok c f e =
    let schema = c.args.schema.now in
    let keys = c.args.keys.now in
    let change = c.args.change.now in
    let key = data_key change in
    let place = c.in-Ok.place in
    let stands = c.in-Ok.ensures.there in
    let same : c.in_ok-key.key ≡ key = c.in_ok-key.ensures in
    let is = get_or_from_slice_get keys place key key (stands.item_is ∙ λ i. Some (same i)) in
    let was = c.index_mut.result.now in
    let from : was ≡ f key = c.index_mut.ensures.value ∙ ((λ i. get_or (e i) place was) ∙ mapped_at f keys place key was stands.within is) in
    on_ok_with c.change_one.result (c.change_one.new.objects ≡ changed_at schema change c.in_ok-key.key was) (set c.args.lists.now.items place c.change_one.new.objects ≡ map (λ k. changed_at schema change k (f k)) keys)
    (λ one. (λ i. set (e i) place (one i)) ∙ ((λ i. set (map f keys) place (changed_at schema change (same i) (from i))) ∙ at_place schema change f keys place c.requires.ascend stands.within is))
    c.change_one.ensures

pub returns : goal.returns
returns c f e =
    e ∙ other_keys c.args.schema.now c.args.change.now f c.args.keys.now (subst (λ (k : Key). has key_cmp c.args.keys.now k ≡ false) c.in_ok-key.ensures c.in-Err.ensures.missing.missing)
