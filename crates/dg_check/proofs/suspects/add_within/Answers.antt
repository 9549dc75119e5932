use Rattle.std.proofs.Common.{◌<◌, length, arith}
use Rattle.dg_check.specs.RunOrder.{blocks_under}
use Rattle.dg_check.specs.Numbers.{has_number}
use Rattle.dg_check.proofs.SuspectLaws.{within_more}
use Rattle.dg_check.proofs.suspects.add_within.Goals as goal

pub loop-name-preserved : goal.loop-name-preserved
loop-name-preserved c =
    let within : c.loop-name.name-index < length c.args.used.now = omega arith in
    within_more (λ name. has_number c.args.numbers.now c.args.number (blocks_under c.args.under.now name)) c.args.used.now c.loop-name.name-index _ c.args.names.now c.loop-name.names c.add_if_within.new.names within c.loop-name.invariant c.in_ok-add_if_within.ensures
