use Rattle.std.proofs.Common.{◌≡◌, ◌<◌, ◌∙◌, fold, length, ap, sym, rules, arith, length-append}
use Rattle.std.proofs.lemmas.List.{map-id}
use Rattle.std.proofs.lemmas.Iterator.Adapters.{YieldsList-from_vec}
use Rattle.std.proofs.lemmas.Iterator.Consumers.{YieldsList-end, YieldsList-turn}
use Rattle.dg_schema.specs.Definitions.{with_definition}
use Rattle.dg_schema.proofs.InPlace.{more_folded}
use Rattle.dg_schema.proofs.placing.put_all.Goals as goal

pub put-requires : goal.put-requires
put-requires c =
    let road = YieldsList-from_vec {s = c.into_iter-definition-iterator.result} c.args.newer.items (search rules) (search rules) in
    let turn = YieldsList-turn road c.loop-definition.yielded _ c.loop-definition.yielded_by _ c.next.new.self _ c.in-Some.is c.next.ensures.steps in
    let left : length c.loop-definition.yielded < length c.args.newer.items = turn.0 in
    let room = c.loop-definition.invariant.room in
    let room_by_name = c.loop-definition.invariant.room_by_name in
    record {
      indexed = c.loop-definition.invariant.indexed;
      room = omega (arith, left, room);
      room_by_name = omega (arith, left, room_by_name);
    }

pub loop-definition-preserved : goal.loop-definition-preserved
loop-definition-preserved c =
    let room = c.loop-definition.invariant.room in
    let room_by_name = c.loop-definition.invariant.room_by_name in
    record {
      so_far = c.put.ensures.items ∙ (ap (λ xs. with_definition xs c.in-Some.definition) c.loop-definition.invariant.so_far ∙ sym (more_folded c.args.definitions.now.items c.loop-definition.yielded c.in-Some.definition));
      indexed = c.put.ensures.indexed;
      room = rw length-append (omega (arith, room, c.put.ensures.len, c.put.ensures.capacity));
      room_by_name = rw length-append (omega (arith, room_by_name, c.put.ensures.len_by_name, c.put.ensures.capacity_by_name));
    }

pub returns : goal.returns
returns c =
    let road = YieldsList-from_vec {s = c.into_iter-definition-iterator.result} c.args.newer.items (search rules) (search rules) in
    let all : c.loop-definition.yielded ≡ c.args.newer.items = sym (map-id c.loop-definition.yielded) ∙ (YieldsList-end road c.loop-definition.yielded _ c.loop-definition.yielded_by _ c.next.new.self c.in-None.is c.next.ensures.steps).0 in
    record {
      items = c.loop-definition.invariant.so_far ∙ ap (fold with_definition c.args.definitions.now.items) all;
      indexed = c.loop-definition.invariant.indexed;
    }
