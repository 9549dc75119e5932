use Rattle.std.proofs.Common.{◌≡◌, ◌<◌, ◌∙◌, ◌∷◌, [], fold, length, ap, sym, rules, arith, length-append}
use Rattle.std.proofs.lemmas.List.{map-id}
use Rattle.std.proofs.lemmas.List.Sums.{fold-append}
use Rattle.std.proofs.lemmas.Iterator.Adapters.{YieldsList-from_vec}
use Rattle.std.proofs.lemmas.Iterator.Consumers.{YieldsList-end, YieldsList-turn}
use Rattle.dg_values.specs.Ascending.{with_one}
use Rattle.dg_keys.specs.Tablets.{tablet_cmp}
use Rattle.dg_zero.proofs.owners.put_each.Goals as goal

pub put-requires : goal.put-requires
put-requires c =
    let road = YieldsList-from_vec {s = c.into_iter-tablet-iterator.result} c.args.more.items (search rules) (search rules) in
    let turn = YieldsList-turn road c.loop-tablet.yielded _ c.loop-tablet.yielded_by _ c.next.new.self _ c.in-Some.is c.next.ensures.steps in
    let left : length c.loop-tablet.yielded < length c.args.more.items = turn.0 in
    let room = c.loop-tablet.invariant.room in
    record { ascend = c.loop-tablet.invariant.ascends; room = omega (arith, left, room) }

pub loop-tablet-preserved : goal.loop-tablet-preserved
loop-tablet-preserved c =
    let room = c.loop-tablet.invariant.room in
    record {
      so_far = c.put.ensures.put ∙ (ap (λ xs. with_one tablet_cmp xs c.in-Some.tablet) c.loop-tablet.invariant.so_far ∙ sym (fold-append (with_one tablet_cmp) c.args.tablets.now.items c.loop-tablet.yielded (c.in-Some.tablet ∷ [])));
      ascends = c.put.ensures.ascends;
      room = rw length-append (omega (arith, room, c.put.ensures.len, c.put.ensures.capacity));
    }

pub returns : goal.returns
returns c =
    let road = YieldsList-from_vec {s = c.into_iter-tablet-iterator.result} c.args.more.items (search rules) (search rules) in
    let all : c.loop-tablet.yielded ≡ c.args.more.items = sym (map-id c.loop-tablet.yielded) ∙ (YieldsList-end road c.loop-tablet.yielded _ c.loop-tablet.yielded_by _ c.next.new.self c.in-None.is c.next.ensures.steps).0 in
    record {
      put = c.loop-tablet.invariant.so_far ∙ ap (fold (with_one tablet_cmp) c.args.tablets.now.items) all;
      ascends = c.loop-tablet.invariant.ascends;
    }
