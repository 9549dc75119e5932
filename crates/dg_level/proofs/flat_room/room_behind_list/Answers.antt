use Rattle.std.proofs.Common.{◌≡◌, true, ◌<◌, ◌*◌, length, get_or, rules, arith}
use Rattle.std.specs.Ordering.{nat_cmp}
use Rattle.dg_values.specs.Ascending.{has}
use Rattle.dg_level.specs.Flats.{weight_in}
use Rattle.dg_level.proofs.PartLaws.{of_level}
use Rattle.dg_level.proofs.FlatRoom.{left_for_one, none_for_list}
use Rattle.dg_level.proofs.flat_room.room_behind_list.Goals as goal

pub returns-in_err-left-clause-too_large : goal.returns-in_err-left-clause-too_large
returns-in_err-left-clause-too_large c = λ f below_is there err.
    let l = c.loop-node in
    let list = c.args.list.now in
    let lt : l.node-index < length list = omega (arith, c.loop-node-test.true) in
    let node = get_or list l.node-index 0 in
    let among : has nat_cmp c.args.level.now node ≡ true = of_level c.args.level.now list l.node-index 0 there lt in
    let weight : c.weight_at.result ≡ weight_in (f node) = c.weight_at.ensures f below_is among in
    let above : l.left < c.args.times * c.weight_at.result = c.room_behind.ensures.too_large (search rules) in
    none_for_list list l.node-index lt f c.args.times l.left c.args.room c.weight_at.result weight (l.invariant f below_is there) above

pub loop-node-preserved : goal.loop-node-preserved
loop-node-preserved c = λ f below_is there.
    let l = c.loop-node in
    let list = c.args.list.now in
    let lt : l.node-index < length list = omega (arith, c.loop-node-test.true) in
    let node = get_or list l.node-index 0 in
    let among : has nat_cmp c.args.level.now node ≡ true = of_level c.args.level.now list l.node-index 0 there lt in
    let weight : c.weight_at.result ≡ weight_in (f node) = c.weight_at.ensures f below_is among in
    left_for_one list l.node-index lt f c.args.times l.left c.in_ok-left.left c.args.room c.weight_at.result weight (l.invariant f below_is there) c.in_ok-left.ensures.left
