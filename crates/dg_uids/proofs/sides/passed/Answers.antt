use Rattle.std.proofs.Common.{◌*◌, arith}
use Rattle.dg_uids.proofs.Galloping.{further, no_further}
use Rattle.dg_uids.proofs.sides.passed.Goals as goal

pub loop-from-preserved : goal.loop-from-preserved
loop-from-preserved c =
    let i = 2 * c.loop-from.from in
    record {
      within = omega arith;
      below = further c.args.uid c.args.uids.now i c.requires c.loop-from-test.true c.if-uids-from.true;
    }

pub returns-else-uids-from-clause-ahead : goal.returns-else-uids-from-clause-ahead
returns-else-uids-from-clause-ahead c = no_further c.args.uid c.args.uids.now (2 * c.loop-from.from) c.requires (λ l. c.if-uids-from.false)
