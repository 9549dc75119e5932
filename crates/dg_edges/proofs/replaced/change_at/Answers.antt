use Rattle.std.proofs.Common.{◌≡◌, false, Some, get_or, map, subst, ◌∙◌}
use Rattle.std.proofs.Math.ListN.{set}
use Rattle.std.proofs.lemmas.Option.{get_or_from_slice_get}
use Rattle.dg_values.specs.Ascending.{has}
use Rattle.dg_keys.specs.Keys.{key_cmp}
use Rattle.dg_keys.specs.declared.key.Key.{Key}
use Rattle.dg_edges.specs.Deltas.{data_key}
use Rattle.dg_edges.specs.Replaced.{sole_after, kept_after}
use Rattle.dg_edges.proofs.AtKeys.{mapped_at, others_stay, set_at}
use Rattle.dg_edges.proofs.ListLaws.{on_ok_with}
use Rattle.dg_edges.proofs.ReplacedLaws.{kept_other, kept_own}
use Rattle.dg_edges.proofs.replaced.change_at.Goals as goal

pub returns-in-Ok : goal.returns-in-Ok
returns-in-Ok c f e =
    let keys = c.args.keys.now in
    let change = c.args.change.now in
    let key = data_key change in
    let place = c.in-Ok.place in
    let stands = c.in-Ok.ensures.there in
    let is = get_or_from_slice_get keys place key key (stands.item_is ∙ λ i. Some (c.requires.own i)) in
    let was = c.index_mut.result.now in
    let from : was ≡ f key = c.index_mut.ensures.value ∙ ((λ i. get_or (e i) place was) ∙ mapped_at f keys place key was stands.within is) in
    on_ok_with c.change_sole.result (c.change_sole.new.objects ≡ sole_after was change) (set c.args.lists.now.items place c.change_sole.new.objects ≡ map (λ k. kept_after change k (f k)) keys)
    (λ one. (λ i. set (e i) place (one i)) ∙ ((λ i. set (map f keys) place (sole_after (from i) change)) ∙ ((λ i. set (map f keys) place (kept_own change (f key) i)) ∙ set_at (kept_after change) key (kept_other change) f keys place c.requires.ascend stands.within is)))
    c.change_sole.ensures

pub returns-in-Err : goal.returns-in-Err
returns-in-Err c f e =
    e ∙ others_stay (kept_after c.args.change.now) (data_key c.args.change.now) (kept_other c.args.change.now) f c.args.keys.now (subst (λ (k : Key). has key_cmp c.args.keys.now k ≡ false) c.requires.own c.in-Err.ensures.missing.missing)
