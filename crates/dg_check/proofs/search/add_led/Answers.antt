use Rattle.dg_check.proofs.SearchLaws.{found_turn}
use Rattle.dg_check.proofs.search.add_led.Goals as goal

pub loop-i-preserved : goal.loop-i-preserved
loop-i-preserved c =
    found_turn c.args.deps.now c.args.found.now c.loop-i.found c.add_new.new.found c.loop-i.i c.in-Some.at c.get.result c.needs_at.result.now
    c.loop-i.invariant c.get.ensures c.in-Some.is c.needs_at.ensures c.in_ok-add_new-in-Some.ensures
