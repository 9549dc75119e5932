use Rattle.std.proofs.Common.{◌≡◌, ◌+◌, ◌≤◌, ℕ, List, length, ap, sym, refl, arith}
use Rattle.dg_wire.specs.declared.request.Request.{Request}
use Rattle.dg_wire.specs.Generator.{generated}
use Rattle.dg_node.specs.Machine.{empty}
use Rattle.dg_node.proofs.Counting.{counting_first, counting_grown, counting_on, counting_done, counted_few}
use Rattle.dg_node.proofs.Leading.{led_from}
use Rattle.dg_node.proofs.Scripted.{few_requests}
use Rattle.dg_node.proofs.loading.totals_of.Goals as goal

pub requests-init : goal.requests-init
requests-init g c = record {
  counting = (empty c.args.groups, c.in_ok-engine.ensures, counting_first (g.P.Patterns.refused c.args.patterns.now) (empty c.args.groups) (generated c.args.seed c.args.size) c.new-script.result c.nothing-totals.result (sym c.new-script.ensures) c.nothing-totals.ensures);
  sound = rw c.nothing-totals.ensures (refl, omega arith);
}

pub count_one-requires-clause-few : goal.count_one-requires-clause-few
count_one-requires-clause-few g c κs within =
    let counting = c.requests.invariant.counting in
    let most = few_requests c.args.seed c.args.size c.requires.few in
    let few = counted_few (g.P.Patterns.refused c.requests.patterns) (empty c.args.groups) (generated c.args.seed c.args.size) c.requests.script counting.0 c.requests.totals counting.2 in
    omega (arith, few, most)

pub requests-preserved : goal.requests-preserved
requests-preserved g c =
    let counting = c.requests.invariant.counting in
    let next = rw c.in-Some.is at c.in_ok-request.ensures.some in
    let led = led_from c.in_ok-totals.ensures.counts counting.0 counting.1 in
    let all = generated c.args.seed c.args.size in
    let list = g.P.Patterns.refused c.requests.patterns in
    let after = g.P.Patterns.refused c.count_one.new.patterns in
    let grown = counting_grown list after (empty c.args.groups) all c.requests.script counting.0 c.requests.totals c.count_one.ensures.grows counting.2 in
    record {
      counting = (led.0, led.2, counting_on after (empty c.args.groups) all c.requests.script c.next.new.self counting.0 led.0 c.in-Some.request c.requests.totals c.in_ok-totals.totals grown next led.1);
      sound = c.in_ok-totals.ensures.sound;
    }
