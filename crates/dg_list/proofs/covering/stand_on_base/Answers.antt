use Rattle.std.proofs.Common.{arith}
use Rattle.dg_list.proofs.Counted.{counted_tells}
use Rattle.dg_list.proofs.covering.stand_on_base.Goals as goal

pub returns-then-len-ops : goal.returns-then-len-ops
returns-then-len-ops c =
    counted_tells c.args.ops.now c.args.base.now c.requires c.len.ensures.ascend c.count_on.result c.len-then-len-ops.result c.count_on.ensures c.len-then-len-ops.ensures.len (omega (arith, c.len.ensures.len, c.len-then-len-ops.ensures.len, c.if-len-ops.true))
