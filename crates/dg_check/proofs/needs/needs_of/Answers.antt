use Rattle.std.proofs.Common.{◌<◌, length, arith}
use Rattle.dg_check.specs.RunOrder.{blocks_under}
use Rattle.dg_check.proofs.NeedLaws.{needs_more}
use Rattle.dg_check.proofs.needs.needs_of.Goals as goal

pub loop-name-preserved : goal.loop-name-preserved
loop-name-preserved c =
    let within : c.loop-name.name-index < length c.args.used.now = omega arith in
    needs_more (blocks_under c.args.under.now) c.args.used.now c.loop-name.name-index _ c.loop-name.needs.items c.add_under_name.new.needs.items within c.loop-name.invariant c.in_ok-add_under_name.ensures
